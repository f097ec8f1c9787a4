-- A field within the word is moved to its place without loss.
use Rattle.std.proofs.Common.{◌≡◌, ℕ, ◌+◌, ◌*◌, ◌/◌, ◌%◌, ◌^◌, ◌<◌, ◌≤◌, ap, ◌∙◌, arith}
use Rattle.std.proofs.Math.Nat.{mod-eq_of_lt}
use Rattle.std.proofs.Math.Pow.{pow_mono}
use Rattle.rv_inst.specs.Fields.{part}
use Rattle.rv_inst.proofs.Fields.{beside-below}
use Rattle.std.proofs.lemmas.Nat.{pow_pos}
use Rattle.rv_inst.proofs.encoder.field.Goals as goal

-- the field at its place is below 2 ^ 32
placed-below : (v low width : ℕ) → low + width ≤ 32 → v % 2 ^ width * 2 ^ low < 2 ^ 32
placed-below v low width h =
    let b : v % 2 ^ width * 2 ^ low + 0 < 2 ^ (width + low) = beside-below v 0 width low (pow_pos low) in
    let e : width + low ≤ 32 = omega arith in
    let m : 2 ^ (width + low) ≤ 2 ^ 32 = pow_mono e in
    omega arith

-- bits from the lowest on are a remainder
low-part : (v width : ℕ) → part v 0 width ≡ v % 2 ^ width
low-part v width = let e : v / 2 ^ 0 ≡ v = omega arith in ap (λ (x : ℕ). x % 2 ^ width) e

pub returns : goal.returns
returns c =
    let e : c.part.result ≡ c.args.value % 2 ^ c.args.width = c.part.ensures.value ∙ low-part c.args.value c.args.width in
    record { value = ap (λ (x : ℕ). x * 2 ^ c.args.low % 2 ^ 32) e ∙ mod-eq_of_lt (placed-below c.args.value c.args.low c.args.width c.requires.in_word) }
