-- The bytes of the widest frame are a stride.
use Rattle.std.proofs.Common.{◌≡◌, ℕ, ◌*◌, ◌≤◌, arith, tests, true}
use Rattle.tl0_code.specs.ThreadCode.{Program}
use Rattle.tl0_code.specs.CodeRules.{IsChecked}
use Rattle.rv_image.specs.ImageFiles.{is_stride}
use Rattle.rv_keep.specs.Image.{stride_of}
use Rattle.rv_keep.proofs.FrameWidths.{IsStride, stride-wide}

-- what passes the tests
stride-test : (n k : ℕ) → n ≡ 4 * k → 16 ≤ n → n ≤ 28708 → is_stride n ≡ true
stride-test n k e l m = grind (arith, tests)

-- the widest frame of checked code
pub stride-is : (p : Program) → IsChecked p → is_stride (stride_of p) ≡ true
stride-is p c = let a : IsStride (stride_of p) = stride-wide p c in stride-test (stride_of p) a.words a.whole a.many a.few
