-- Maps over the kinds of a tree: its size, its flat list, and tests.
use Rattle.std.proofs.Common.{◌≡◌, ℕ, suc, ◌+◌, List, [], ◌∷◌, map, Bool, ◌&&◌, refl, sym, ap, ◌∙◌}
use Rattle.sql_flat_law.specs.Rose.{Rose, node, Roses, none, more, size, sizes, flat, flats, rose_map, roses_map, rose_all, roses_all}

module _ {K J N M : Type 0} (make : K → ℕ → N) (turned : J → ℕ → M) (f : K → J) (g : N → M) (g-make : (k : K) (e : ℕ) → g (make k e) ≡ turned (f k) e) where
  mutual
    size-map : (t : Rose K) → size (rose_map f t) ≡ size t
    size-map (node k ts) = ap suc (sizes-map ts)

    sizes-map : (ts : Roses K) → sizes (roses_map f ts) ≡ sizes ts
    sizes-map none = refl
    sizes-map (more t ts) = λ i. size-map t i + sizes-map ts i

  mutual
    flat-map : (n : ℕ) (t : Rose K) (rest : List N)
        → flat turned n (rose_map f t) (map g rest) ≡ map g (flat make n t rest)
    flat-map n (node k ts) rest =
        (λ i. turned (f k) (n + suc (sizes-map ts i)) ∷ flats-map (n + 1) ts rest i)
        ∙ ap (λ x. x ∷ map g (flats make (n + 1) ts rest)) (sym (g-make k (n + suc (sizes ts))))

    flats-map : (n : ℕ) (ts : Roses K) (rest : List N)
        → flats turned n (roses_map f ts) (map g rest) ≡ map g (flats make n ts rest)
    flats-map n none rest = refl
    flats-map n (more t ts) rest =
        (λ i. flat turned n (rose_map f t) (flats turned (n + size-map t i) (roses_map f ts) (map g rest)))
        ∙ ap (flat turned n (rose_map f t)) (flats-map (n + size t) ts rest)
        ∙ flat-map n t (flats make (n + size t) ts rest)

  pub list-map : (t : Rose K) → flat turned 0 (rose_map f t) [] ≡ map g (flat make 0 t [])
  list-map t = flat-map 0 t []

module _ {K J : Type 0} (f : K → J) (test : J → Bool) where
  mutual
    pub all-map : (t : Rose K) → rose_all test (rose_map f t) ≡ rose_all (λ k. test (f k)) t
    all-map (node k ts) = ap (λ b. test (f k) && b) (alls-map ts)

    alls-map : (ts : Roses K) → roses_all test (roses_map f ts) ≡ roses_all (λ k. test (f k)) ts
    alls-map none = refl
    alls-map (more t ts) = λ i. all-map t i && alls-map ts i

-- a map that leaves each kind as it is
module _ {K : Type 0} (f : K → K) (same : (k : K) → f k ≡ k) where
  mutual
    pub map-same : (t : Rose K) → rose_map f t ≡ t
    map-same (node k ts) = λ i. node (same k i) (maps-same ts i)

    maps-same : (ts : Roses K) → roses_map f ts ≡ ts
    maps-same none = refl
    maps-same (more t ts) = λ i. more (map-same t i) (maps-same ts i)

pub ruleset maps = (list-map, all-map)
