use Rattle.std.proofs.Common.{◌<◌, sym, ap, subst, length, List, ℕ, get_or, true, ◌≡◌}
use Rattle.tam_word.specs.Lists.{has}
use Rattle.tam_part.proofs.Standing.{class-long, first-has}
use Rattle.tam_part.proofs.kept.place_of.Goals as goal

pub bounds-class-0 : goal.bounds-class-0
bounds-class-0 c =
    subst (λ (xs : List ℕ). 0 < length xs) (sym c.class.ensures.value) (class-long c.args.p.now c.requires.kept c.args.k c.requires.in_range)

pub returns : goal.returns
returns c = record {
  value = ap (λ (xs : List ℕ). get_or xs 0 0) c.class.ensures.value;
  member = subst (λ (xs : List ℕ). has xs (get_or c.class.result.now 0 0) ≡ true) c.class.ensures.value (first-has c.class.result.now
      (subst (λ (xs : List ℕ). 0 < length xs) (sym c.class.ensures.value) (class-long c.args.p.now c.requires.kept c.args.k c.requires.in_range)));
}
