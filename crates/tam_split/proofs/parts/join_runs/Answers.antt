use Rattle.std.proofs.Common.{◌+◌, ◌-◌, refl}
use Rattle.std.proofs.lemmas.List.Sorted.{IsNonDecreasingBy-from_sort}
use Rattle.tam_split.proofs.Runs.{runs-joined}
use Rattle.tam_split.proofs.parts.join_runs.Goals as goal

pub returns : goal.returns
returns c =
    let bounds = c.requires.in_range in record {
      value = runs-joined c.args.places.now c.args.from c.args.middle c.args.start c.args.end bounds.0 bounds.1 bounds.2 bounds.3 c.requires.rising
          (c.args.middle + (c.args.end - c.args.start) - c.args.from) refl c.rotate_left.new.self c.sort_unstable.new.self c.rotate_left.ensures.after
          c.sort_unstable.ensures.permutation (IsNonDecreasingBy-from_sort (λ x. x) c.sort_unstable.new.self c.sort_unstable.ensures.sorted);
    }
