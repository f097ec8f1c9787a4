use Rattle.std.proofs.Common.{◌≡◌, ◌<◌, ◌∙◌, ℕ, List, length, subst, ap, arith}
use Rattle.tam_split.specs.Partitions.{partition_of, class_at}
use Rattle.tam_list.specs.Listings.{class_line}
use Rattle.tam_list.proofs.Inside.{class-inside, class-there}
use Rattle.tam_list.proofs.Appending.{more-taken}
use Rattle.tam_list.proofs.block_classes.push_classes.Goals as goal

pub push_class-requires : goal.push_class-requires
push_class-requires c =
    let b = c.args.block.now in
    let here : c.loop-class.class < length c.in_ok-parts.parts = omega (arith, c.classes-class-end.ensures.value) in
    let within : c.loop-class.class < length (partition_of b) = subst (λ (ps : List (List ℕ)). c.loop-class.class < length ps)
    c.in_ok-parts.ensures.value here in
    let is : c.class.result.now ≡ class_at (partition_of b) c.loop-class.class =
    c.class.ensures.value ∙ ap (λ (ps : List (List ℕ)). class_at ps c.loop-class.class) c.in_ok-parts.ensures.value in
    record { in_range = class-inside b c.requires.block c.loop-class.class c.class.result.now within is }

pub loop-class-preserved : goal.loop-class-preserved
loop-class-preserved c =
    let b = c.args.block.now in
    let here : c.loop-class.class < length c.in_ok-parts.parts = omega (arith, c.classes-class-end.ensures.value) in
    let within : c.loop-class.class < length (partition_of b) = subst (λ (ps : List (List ℕ)). c.loop-class.class < length ps)
    c.in_ok-parts.ensures.value here in
    let is : c.class.result.now ≡ class_at (partition_of b) c.loop-class.class =
    c.class.ensures.value ∙ ap (λ (ps : List (List ℕ)). class_at ps c.loop-class.class) c.in_ok-parts.ensures.value in
    more-taken (class_line b) c.args.text.now.items (partition_of b) c.loop-class.class c.class.result.now _ _ within
    (class-there (partition_of b) c.loop-class.class c.class.result.now within is) c.loop-class.invariant c.in_ok-push_class.ensures.ok
