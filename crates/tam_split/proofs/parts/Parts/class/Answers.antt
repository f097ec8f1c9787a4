use Rattle.std.proofs.Common.{◌<◌, ◌≤◌, ◌∙◌, sym, ap, subst, arith, List, ℕ, length}
use Rattle.std.specs.Prelude.{slice_range}
use Rattle.tam_split.specs.Partitions.{class_at}
use Rattle.tam_split.specs.KeptParts.{cut_from}
use Rattle.tam_split.proofs.Flat.{length-cut}
use Rattle.tam_split.proofs.Stored.{class-bounds}
use Rattle.tam_split.proofs.parts.Parts.class.Goals as goal

pub bounds-start-requires : goal.bounds-start-requires
bounds-start-requires c =
    let there : c.args.k < length (cut_from 0 c.self.inside.places.items c.self.inside.ends.items) = subst (λ (ps : List (List ℕ)). c.args.k < length ps)
    (sym c.self.view_is) c.requires.in_range in
    record { in_range = omega (arith, length-cut 0 c.self.inside.places.items c.self.inside.ends.items, ap length c.deref.ensures.value) }

pub run-requires : goal.run-requires
run-requires c =
    let there : c.args.k < length (cut_from 0 c.self.inside.places.items c.self.inside.ends.items) = subst (λ (ps : List (List ℕ)). c.args.k < length ps)
    (sym c.self.view_is) c.requires.in_range in
    let s = class-bounds c.self.inside.places.items c.self.inside.ends.items c.args.k c.self.invariant there c.deref.result.now c.deref.ensures.value
    c.bounds-start.result.0 c.bounds-start.result.1 c.bounds-start.ensures.start c.bounds-start.ensures.end in
    record { in_range = (s.ordered, subst (λ (l : List ℕ). c.bounds-start.result.1 ≤ length l) (sym c.deref-2.ensures.value) s.inside) }

pub returns : goal.returns
returns c =
    let there : c.args.k < length (cut_from 0 c.self.inside.places.items c.self.inside.ends.items) = subst (λ (ps : List (List ℕ)). c.args.k < length ps)
    (sym c.self.view_is) c.requires.in_range in
    let s = class-bounds c.self.inside.places.items c.self.inside.ends.items c.args.k c.self.invariant there c.deref.result.now c.deref.ensures.value
    c.bounds-start.result.0 c.bounds-start.result.1 c.bounds-start.ensures.start c.bounds-start.ensures.end in
    record {
      value = c.run.ensures.value
          ∙ (ap (λ (l : List ℕ). slice_range l c.bounds-start.result.0 c.bounds-start.result.1) c.deref-2.ensures.value ∙
          (s.class ∙ ap (λ (ps : List (List ℕ)). class_at ps c.args.k) c.self.view_is));
    }
