use Rattle.std.proofs.Common.{◌≡◌, ◌<◌, ◌++◌, ◌∙◌, sym, ap, subst, arith, List, ℕ, length, take, drop}
use Rattle.std.proofs.lemmas.List.{take_at}
use Rattle.tam_split.specs.Partitions.{merged}
use Rattle.tam_split.specs.KeptParts.{cut_from}
use Rattle.tam_split.proofs.Flat.{length-cut}
use Rattle.tam_split.proofs.Stored.{flat-cut, flat-again}
use Rattle.tam_split.proofs.parts.Parts.merge.Goals as goal

pub unite-requires-clause-in_range : goal.unite-requires-clause-in_range
unite-requires-clause-in_range c =
    let there : c.args.b < length (cut_from 0 c.self.inside.places.items c.self.inside.ends.items) = subst (λ (ps : List (List ℕ)). c.args.b < length ps)
    (sym c.self.view_is) c.requires.in_range in
    omega (arith, length-cut 0 c.self.inside.places.items c.self.inside.ends.items)

pub invariant_of-self : goal.invariant_of-self
invariant_of-self c =
    let new = c.unite.new.places in
    let long : length new ≡ c.self.inside.places.len = omega (arith, ap length c.deref_mut.ensures.value, c.deref_mut.ensures.len) in
    let back : take c.self.inside.places.len (new ++ drop (length new) c.self.inside.places.items) ≡ new = take_at new
    (drop (length new) c.self.inside.places.items) c.self.inside.places.len long in
    rw back (flat-again _ new c.unite.new.ends.items c.unite.ensures.flat)

pub returns : goal.returns
returns c =
    let new = c.unite.new.places in
    let long : length new ≡ c.self.inside.places.len = omega (arith, ap length c.deref_mut.ensures.value, c.deref_mut.ensures.len) in
    let back : take c.self.inside.places.len (new ++ drop (length new) c.self.inside.places.items) ≡ new = take_at new
    (drop (length new) c.self.inside.places.items) c.self.inside.places.len long in
    let old : cut_from 0 c.deref_mut.result.now c.self.inside.ends.items ≡ c.args.self.now = ap
    (λ (l : List ℕ). cut_from 0 l c.self.inside.ends.items) c.deref_mut.ensures.value ∙ c.self.view_is in
    record {
      value = ap (λ (l : List ℕ). cut_from 0 l c.unite.new.ends.items) back
          ∙ (flat-cut _ new c.unite.new.ends.items c.unite.ensures.flat ∙ ap (λ (ps : List (List ℕ)). merged ps c.args.a c.args.b) old);
    }
