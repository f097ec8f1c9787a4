use Rattle.std.proofs.Common.{◌≡◌, ◌*◌, ◌/◌, ◌%◌, ◌^◌, ◌<◌, ◌∙◌, sym, ap, subst, arith, ℕ, Bool, true, false, ◌==◌, get_or, set, bit_or, length}
use Rattle.std.proofs.Common.{refl, List}
use Rattle.std.proofs.lemmas.Nat.{or_lt}
use Rattle.std.proofs.lemmas.List.{get_or-set_same, get_or-set_other}
use Rattle.std.proofs.Math.ListN.{length-set}
use Rattle.tam_word.proofs.Tests.{number-eq, number-differs}
use Rattle.tam_sets.specs.Sets.{with_place}
use Rattle.tam_sets.proofs.SetBits.{bits-with, words-small}
use Rattle.tam_sets.proofs.set.Set.insert.Goals as goal

-- words of 64 bits of which one is set stay such words
still-small : (ws : List ℕ) (i w : ℕ) → ((k : ℕ) → k < 8 → get_or ws k 0 < 2 ^ 64) → i < length ws → w < 2 ^ 64 → (k : ℕ) → k < 8
    → get_or (set ws i w) k 0 < 2 ^ 64
still-small ws i w h l s k m = go (k == i) refl
  where
    go : (t : Bool) → (k == i) ≡ t → get_or (set ws i w) k 0 < 2 ^ 64
    go true p = let e : k ≡ i = number-eq k i p in subst (λ j. get_or (set ws i w) j 0 < 2 ^ 64) (sym e)
        (subst (λ v. v < 2 ^ 64) (sym (get_or-set_same ws i w 0 l)) s)
    go false p = subst (λ v. v < 2 ^ 64) (sym (get_or-set_other ws i k w 0 (number-differs k i p))) (h k m)

pub invariant_of-self : goal.invariant_of-self
invariant_of-self c =
    let ws : List ℕ = c.self.inside.words in
    let i : ℕ = c.args.place / 64 in
    let bit : 1 * 2 ^ (c.args.place % 64) % 2 ^ 64 < 2 ^ 64 = omega arith in
    let there : i < length ws = let l : c.args.place < 512 = c.requires.in_range in let e : length ws ≡ 8 = c.self.invariant.count in omega arith in
    let old : get_or ws i 0 < 2 ^ 64 = c.self.invariant.small i 0 there in
    let w : ℕ = bit_or (get_or ws i 0) (1 * 2 ^ (c.args.place % 64) % 2 ^ 64) in
    let count : length (set ws i w) ≡ 8 = length-set ws i w ∙ c.self.invariant.count in
    record {
      count = count;
      small = words-small (set ws i w) count
          (still-small ws i w (λ k l. c.self.invariant.small k 0 (omega arith)) there
          (or_lt 64 (get_or ws i 0) (1 * 2 ^ (c.args.place % 64) % 2 ^ 64) old bit));
    }

pub returns : goal.returns
returns c =
    let ws : List ℕ = c.self.inside.words in
    let i : ℕ = c.args.place / 64 in
    let there : i < length ws = let l : c.args.place < 512 = c.requires.in_range in let e : length ws ≡ 8 = c.self.invariant.count in omega arith in
    let w : ℕ = bit_or (get_or ws i 0) (1 * 2 ^ (c.args.place % 64) % 2 ^ 64) in
    record {
      value = bits-with ws (set ws i w) c.args.place c.requires.in_range (get_or-set_same ws i w 0 there) (λ k d. get_or-set_other ws i k w 0 d)
          ∙ ap (with_place c.args.place) c.self.view_is;
    }
