use Rattle.std.proofs.Common.{◌≡◌, ◌+◌, map, subst, ◌<◌, ◌≤◌, ap, sym, ◌∙◌, arith, drop, length, true, false, [], get_or}
use Rattle.std.proofs.lemmas.Grind.{common_steps}
use Rattle.sql_flat_text.proofs.Counting.{frames-length, none-left, opened-length, own-some, takes}
use Rattle.sql_flat_text.proofs.Turning.{begins-is, closes-is, ended, opened-later, opened-within, pours-fits, refused, turned}
use Rattle.sql_flat_text.specs.inside.Sinks.{poured, sunk}
use Rattle.sql_flat_text.specs.inside.Turns.{frames, has_ended, reads, told_from}
use Rattle.sql_flat_text.specs.inside.Writing.{whole_of}
use Rattle.sql_flat_text.specs.Steps.{kind_of, steps_from}
use Rattle.sql_flat_text.proofs.place.write.Goals as goal

pub loop-place-preserved-then-innermost_has_ended : goal.loop-place-preserved-then-innermost_has_ended
loop-place-preserved-then-innermost_has_ended g c =
    let d = g.DB.Backend.speaks in
    let nodes = c.args.nodes.now in
    let place = c.loop-place.place in
    let fs = frames place.«open».items in
    let e : has_ended place.index (length nodes) fs ≡ true = grind (arith, common_steps) in
    let t = sunk g.DB.QueryBuilder.QueryBuilder.text g.DB.QueryBuilder.QueryBuilder.count c.close.new.sink in
    record {
      told =
          (λ j. poured d t
          (told_from d (c.in_ok-close.ensures.frames j) (c.in_ok-close.ensures.first j) (c.in_ok-close.ensures.index j)
          (drop (c.in_ok-close.ensures.index j) nodes)))
          ∙ turned d _ t _ _ _ _ c.loop-place.invariant.told
          (closes-is d fs place.first place.index nodes e) c.in_ok-close.ensures.text;
      fits = λ h. pours-fits c.in_ok-close.ensures.text (c.loop-place.invariant.fits h);
      within = grind (arith, common_steps);
      begun = grind (arith, common_steps);
      cost = grind (arith, common_steps);
      exact =
          let same = ap (λ i. steps_from d 0 i (drop i nodes)) c.in_ok-close.ensures.index in
          let some : 0 < length place.«open».items = grind (arith, common_steps) in
          omega (arith, same, some, c.in_ok-close.ensures.shrinks some, c.loop-place.invariant.exact);
      since = grind (arith, common_steps);
    }

pub returns-in_err-close-clause-text : goal.returns-in_err-close-clause-text
returns-in_err-close-clause-text g c =
    let d = g.DB.Backend.speaks in
    let nodes = c.args.nodes.now in
    let place = c.loop-place.place in
    let fs = frames place.«open».items in
    let e : has_ended place.index (length nodes) fs ≡ true = grind (arith, common_steps) in
    refused d _ _ _ _ _ _ _ _ _ _ c.loop-place.invariant.told (closes-is d fs place.first place.index nodes e)
    c.in_err-close.ensures.text (grind (arith, common_steps))

pub returns-in_err-close-clause-counted : goal.returns-in_err-close-clause-counted
returns-in_err-close-clause-counted g c =
    let some : 0 < length c.loop-place.place.«open».items = grind (arith, common_steps) in
    (grind (arith, common_steps), omega (arith, some, c.loop-place.invariant.exact))

pub loop-place-preserved : goal.loop-place-preserved
loop-place-preserved g c =
    let d = g.DB.Backend.speaks in
    let nodes = c.args.nodes.now in
    let place = c.loop-place.place in
    let fs = frames place.«open».items in
    let e : has_ended place.index (length nodes) fs ≡ false = grind (arith, common_steps) in
    let l : place.index < length nodes = grind (arith, common_steps) in
    let x = c.index-nodes-place.result in
    let t = sunk g.DB.QueryBuilder.QueryBuilder.text g.DB.QueryBuilder.QueryBuilder.count c.begin.new.sink in
    let o = whole_of d x.kind (map kind_of c.below-below.result.now) in
    let at : x ≡ get_or nodes place.index x = grind (arith, common_steps) in
    let is : o ≡ reads d place.index x (drop (place.index + 1) nodes) =
    ap (λ ks. whole_of d x.kind (map kind_of ks)) c.below-below.ensures in
    let later : place.index < c.begin.new.self.index =
    subst (λ n. place.index < n) (sym c.in_ok-begin.ensures.index) (opened-later d o x place.index (length nodes) l) in
    let within : c.begin.new.self.index ≤ length nodes =
    subst (λ n. n ≤ length nodes) (sym c.in_ok-begin.ensures.index)
    (opened-within d o x place.index (length nodes) l) in
    record {
      told =
          (λ j. poured d t
          (told_from d (c.in_ok-begin.ensures.frames j) (c.in_ok-begin.ensures.first j) (c.in_ok-begin.ensures.index j)
          (drop (c.in_ok-begin.ensures.index j) nodes)))
          ∙ turned d _ t _ _ _ _ c.loop-place.invariant.told
          (begins-is d fs place.first place.index nodes x o e l at is) c.in_ok-begin.ensures.text;
      fits = λ h. pours-fits c.in_ok-begin.ensures.text (c.loop-place.invariant.fits h);
      within = within;
      begun = grind (arith, common_steps);
      cost = grind (arith, common_steps);
      exact =
          let same = ap (λ i. steps_from d 0 i (drop i nodes)) c.in_ok-begin.ensures.index in
          let grown = ap length c.in_ok-begin.ensures.frames in
          omega (
            arith,
            same,
            grown,
            takes d place.index nodes x o l at is,
            opened-length o x fs,
            frames-length place.«open».items,
            frames-length c.begin.new.self.«open».items,
            c.loop-place.invariant.exact,
          );
      since = grind (arith, common_steps);
    }

pub returns-in_err-begin-clause-counted : goal.returns-in_err-begin-clause-counted
returns-in_err-begin-clause-counted g c =
    let d = g.DB.Backend.speaks in
    let nodes = c.args.nodes.now in
    let place = c.loop-place.place in
    let l : place.index < length nodes = grind (arith, common_steps) in
    let x = c.index-nodes-place.result in
    let o = whole_of d x.kind (map kind_of c.below-below.result.now) in
    let at : x ≡ get_or nodes place.index x = grind (arith, common_steps) in
    let is : o ≡ reads d place.index x (drop (place.index + 1) nodes) =
    ap (λ ks. whole_of d x.kind (map kind_of ks)) c.below-below.ensures in
    let took = takes d place.index nodes x o l at is in
    (grind (arith, common_steps), omega (arith, took, own-some o, c.loop-place.invariant.exact))

pub returns-in_err-begin-clause-text : goal.returns-in_err-begin-clause-text
returns-in_err-begin-clause-text g c =
    let d = g.DB.Backend.speaks in
    let nodes = c.args.nodes.now in
    let place = c.loop-place.place in
    let fs = frames place.«open».items in
    let e : has_ended place.index (length nodes) fs ≡ false = grind (arith, common_steps) in
    let l : place.index < length nodes = grind (arith, common_steps) in
    let x = c.index-nodes-place.result in
    let o = whole_of d x.kind (map kind_of c.below-below.result.now) in
    let at : x ≡ get_or nodes place.index x = grind (arith, common_steps) in
    let is : o ≡ reads d place.index x (drop (place.index + 1) nodes) =
    ap (λ ks. whole_of d x.kind (map kind_of ks)) c.below-below.ensures in
    refused d _ _ _ _ _ _ _ _ _ _ c.loop-place.invariant.told
    (begins-is d fs place.first place.index nodes x o e l at is) c.in_err-begin.ensures.text
    (grind (arith, common_steps))

pub returns-clause-exact : goal.returns-clause-exact
returns-clause-exact g c =
    let place = c.loop-place.place in
    let over : length c.args.nodes.now ≤ place.index = grind (arith, common_steps) in
    let closed : length place.«open».items ≡ 0 = grind (arith, common_steps) in
    let none = none-left g.DB.Backend.speaks place.index c.args.nodes.now over in
    omega (arith, none, closed, c.loop-place.invariant.exact)

pub returns-clause-text : goal.returns-clause-text
returns-clause-text g c =
    let nodes = c.args.nodes.now in
    let place = c.loop-place.place in
    let over : length nodes ≤ place.index = grind (arith, common_steps) in
    let closed : place.«open».items ≡ [] = grind (arith, common_steps) in
    let none : frames place.«open».items ≡ [] = ap frames closed in
    ended g.DB.Backend.speaks _ _ place.first place.index nodes
    (frames place.«open».items) _ c.loop-place.invariant.told none over
    c.loop-place.invariant.fits
