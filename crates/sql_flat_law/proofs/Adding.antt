-- The rules of Adds.
use Rattle.std.proofs.Common.{◌≡◌, ℕ, suc, ◌+◌, ◌<◌, ◌≤◌, List, [], ◌∷◌, ◌++◌, length, drop, get_or, subst, refl, sym, ap, ◌∙◌, arith, append_assoc, append-nil, length-append}
use Rattle.std.proofs.lemmas.List.{drop_more, drop_all}
use Rattle.sql_flat_law.specs.Rose.{Rose, node, Roses, none, more, one, joined, flat, flats, size, sizes, roses_of}
use Rattle.sql_flat_law.specs.Building.{Adds, adds, Opens, opens, Closes, closes, Finishes, finishes}

module _ {K N : Type 0} (make : K → ℕ → N) where
  mutual
    pub front : (n : ℕ) (t : Rose K) (rest : List N) → flat make n t rest ≡ flat make n t [] ++ rest
    front n (node k ts) rest = ap (λ l. make k (n + suc (sizes ts)) ∷ l) (fronts (n + 1) ts rest)

    pub fronts : (n : ℕ) (ts : Roses K) (rest : List N) → flats make n ts rest ≡ flats make n ts [] ++ rest
    fronts n none rest = refl
    fronts n (more t ts) rest =
        front n t (flats make (n + size t) ts rest) ∙ ap (λ l. flat make n t [] ++ l) (fronts (n + size t) ts rest)
        ∙ sym (append_assoc (flat make n t []) (flats make (n + size t) ts []) rest)
        ∙ ap (λ l. l ++ rest) (sym (front n t (flats make (n + size t) ts [])))

  pub flats-joined : (n : ℕ) (ts us : Roses K) (rest : List N)
      → flats make n (joined ts us) rest ≡ flats make n ts (flats make (n + sizes ts) us rest)
  flats-joined n none us rest = ap (λ m. flats make m us rest) (omega arith)
  flats-joined n (more t ts) us rest =
      ap (flat make n t)
      (flats-joined (n + size t) ts us rest
      ∙ ap (λ m. flats make (n + size t) ts (flats make m us rest)) (omega arith))

  mutual
    pub length-flat : (n : ℕ) (t : Rose K) (rest : List N) → length (flat make n t rest) ≡ size t + length rest
    length-flat n (node k ts) rest =
        let h : length (flats make (n + 1) ts rest) ≡ sizes ts + length rest = length-flats (n + 1) ts rest in
        omega arith

    pub length-flats : (n : ℕ) (ts : Roses K) (rest : List N) → length (flats make n ts rest) ≡ sizes ts + length rest
    length-flats n none rest = omega arith
    length-flats n (more t ts) rest =
        let h : length (flat make n t (flats make (n + size t) ts rest))
        ≡ size t + length (flats make (n + size t) ts rest) =
        length-flat n t (flats make (n + size t) ts rest) in
        let g : length (flats make (n + size t) ts rest) ≡ sizes ts + length rest = length-flats (n + size t) ts rest in
        omega arith

module _ {K N : Type 0} {make : K → ℕ → N} where
  pub adds-none : {old : List N} → Adds make old none old
  adds-none {old} = adds (sym (append-nil old))

  pub adds-more : {old mid new : List N} {t : Rose K} {ts : Roses K} → Adds make old (one t) mid → Adds make mid ts new
      → Adds make old (more t ts) new
  adds-more {old} {mid} {new} {t} {ts} (adds p) (adds q) =
      let n = length old in
      let len : length mid ≡ n + size t =
      ap length p ∙ length-append old (flat make n t [])
      ∙ ap (λ m. n + m) (length-flat make n t [] ∙ omega arith) in
      adds (q ∙ (λ i. p i ++ flats make (len i) ts [])
      ∙ append_assoc old (flat make n t []) (flats make (n + size t) ts [])
      ∙ ap (λ l. old ++ l) (sym (front make n t (flats make (n + size t) ts []))))

  pub adds-two : {old mid new : List N} {t u : Rose K} → Adds make old (one t) mid → Adds make mid (one u) new
      → Adds make old (more t (one u)) new
  adds-two a b = adds-more a b

  opens-joined : {before old new : List N} {k : K} {ts us : Roses K} {at : ℕ} → Opens make before k ts at old
      → Adds make old us new → Opens make before k (joined ts us) at new
  opens-joined {before} {old} {new} {k} {ts} {us} (opens h o) (adds a) =
      let n = length before in
      let first : length old ≡ n + suc (length (flats make (n + 1) ts [])) =
      ap length o ∙ length-append before (make k 0 ∷ flats make (n + 1) ts []) in
      let rest : length (flats make (n + 1) ts []) ≡ sizes ts + 0 = length-flats make (n + 1) ts [] in
      let len : length old ≡ n + 1 + sizes ts = omega arith in
      opens h
      (a ∙ (λ i. o i ++ flats make (len i) us [])
      ∙ append_assoc before (make k 0 ∷ flats make (n + 1) ts []) (flats make (n + 1 + sizes ts) us [])
      ∙ ap (λ l. before ++ make k 0 ∷ l)
      (sym (flats-joined make (n + 1) ts us []
      ∙ fronts make (n + 1) ts (flats make (n + 1 + sizes ts) us []))))

  closed : {before old new : List N} {k : K} {ts : Roses K} {at : ℕ} → Opens make before k ts at old
      → Closes make old at new → Adds make before (one (node k ts)) new
  closed {before} {old} {new} {k} {ts} (opens h o) (closes c) =
      let n = length before in
      let first : length old ≡ n + suc (length (flats make (n + 1) ts [])) =
      ap length o ∙ length-append before (make k 0 ∷ flats make (n + 1) ts []) in
      let rest : length (flats make (n + 1) ts []) ≡ sizes ts + 0 = length-flats make (n + 1) ts [] in
      let len : length old ≡ n + suc (sizes ts) = omega arith in
      adds (c k 0 before (flats make (n + 1) ts []) o h ∙ ap (λ e. before ++ make k e ∷ flats make (n + 1) ts []) len)

  pub adds-node : {old mid end new : List N} {k : K} {at : ℕ} {ts : Roses K} → Opens make old k none at mid
      → Adds make mid ts end → Closes make end at new → Adds make old (one (node k ts)) new
  adds-node o a c = closed (opens-joined o a) c

  pub opens-same : {old new : List N} {k l : K} {at : ℕ} {ts : Roses K} → k ≡ l → Opens make old k ts at new
      → Opens make old l ts at new
  opens-same {old} {new} {k} {l} {at} {ts} e o = subst (λ x. Opens make old x ts at new) e o

  pub opens-first : {old mid new : List N} {k : K} {at : ℕ} {ts : Roses K} → Opens make old k none at mid
      → Adds make mid ts new → Opens make old k ts at new
  opens-first o a = opens-joined o a

  pub finishes-last : {old mid new : List N} {at : ℕ} {us : Roses K} → Adds make old us mid → Closes make mid at new
      → Finishes make old at us new
  finishes-last a c = finishes (λ _ _ _ o. closed (opens-joined o a) c)

  pub adds-pair : {old mid new : List N} {k : K} {at : ℕ} {t u : Rose K} → Opens make old k (one t) at mid
      → Finishes make mid at (one u) new → Adds make old (one (node k (more t (one u)))) new
  adds-pair o (finishes f) = f _ _ _ o

  -- one tree and nothing else
  pub adds-alone : {new : List N} (t : Rose K) → Adds make [] (one t) new → new ≡ flat make 0 t []
  adds-alone t (adds h) = h

  -- one tree more of those that a list gives
  module _ {X : Type 0} (f : X → Rose K) (xs : List X) (i : ℕ) where
    pub adds-next : (x : X) → i < length xs → x ≡ get_or xs i x → {old mid new : List N} → Adds make old (one (f x)) mid
        → Adds make mid (roses_of f (drop (i + 1) xs)) new → Adds make old (roses_of f (drop i xs)) new
    adds-next x h e {old} {mid} {new} a b =
        subst (λ ts. Adds make old ts new)
        (sym (ap (roses_of f) (drop_more xs i x h) ∙ ap (λ y. more (f y) (roses_of f (drop (i + 1) xs))) (sym e)))
        (adds-more a b)

    pub adds-end : length xs ≤ i → {old : List N} → Adds make old (roses_of f (drop i xs)) old
    adds-end h {old} = subst (λ ts. Adds make old ts old) (sym (ap (roses_of f) (drop_all i xs h))) adds-none

pub ruleset adding = (adds-none, adds-two, adds-more, adds-node, adds-pair, opens-first, finishes-last)

pub ruleset alone = (adds-alone)
