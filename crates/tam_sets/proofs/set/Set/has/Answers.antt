use Rattle.std.proofs.Common.{◌≡◌, ◌≤◌, ◌∙◌, sym, ap, subst, arith, tests, false, nat_lt, List, ℕ, get_or, ◌/◌, ◌%◌}
use Rattle.tam_word.specs.Lists.{has}
use Rattle.tam_sets.specs.Sets.{places_where}
use Rattle.tam_sets.specs.Bits.{has_bit}
use Rattle.tam_sets.proofs.PlacesWhere.{has-where, where-has, has-beyond}
use Rattle.tam_sets.proofs.SetBits.{bit-read}
use Rattle.tam_sets.proofs.set.Set.has.Goals as goal

pub returns-then-place-lt-PLACES-clause-value : goal.returns-then-place-lt-PLACES-clause-value
returns-then-place-lt-PLACES-clause-value c =
    bit-read (get_or c.self.inside.words (c.args.place / 64) 0) (c.args.place % 64)
    ∙ (sym (has-where (has_bit c.self.inside.words) c.args.place c.if-place-lt-PLACES.true) ∙ ap (λ (xs : List ℕ). has xs c.args.place) c.self.view_is)

pub returns-then-place-lt-PLACES-clause-members : goal.returns-then-place-lt-PLACES-clause-members
returns-then-place-lt-PLACES-clause-members c = subst (λ (xs : List ℕ). xs ≡ places_where (has xs)) c.self.view_is (where-has (has_bit c.self.inside.words))

pub returns-else-place-lt-PLACES-clause-value : goal.returns-else-place-lt-PLACES-clause-value
returns-else-place-lt-PLACES-clause-value c =
    let high : 512 ≤ c.args.place = c.if-place-lt-PLACES.false in
    let none : nat_lt c.args.place 512 ≡ false = grind (arith, tests) in
    none
    ∙ (sym (has-beyond (has_bit c.self.inside.words) c.args.place (λ l. absurd (omega arith))) ∙ ap (λ (xs : List ℕ). has xs c.args.place) c.self.view_is)

pub returns-else-place-lt-PLACES-clause-members : goal.returns-else-place-lt-PLACES-clause-members
returns-else-place-lt-PLACES-clause-members c = subst (λ (xs : List ℕ). xs ≡ places_where (has xs)) c.self.view_is (where-has (has_bit c.self.inside.words))
