-- Images of small thread code, word by word, by computation. The words were written by a program of its own, apart from these definitions.
-- The rules in words: docs/MACHINE.md, "Machine code".
use Rattle.std.specs.Prelude.{◌≡◌, ℕ, refl, List, [], ◌∷◌, ◌++◌, map, length, drop}
use Rattle.tam_word.specs.declared.op.Op.TheVariants.{Add}
use Rattle.tl0_code.specs.declared.instr.Instr.{Instr}
use Rattle.tl0_code.specs.declared.instr.Instr.TheVariants.{Op as Operate, Ret}
use Rattle.tl0_code.specs.ThreadCode.{Thread, Program}
use Rattle.rv_inst.specs.Instructions.{encoded}
use Rattle.rv_keep.specs.KernelPlaces.{kernel_words}
use Rattle.rv_keep.specs.Kernel.{kernel}
use Rattle.rv_keep.specs.Image.{image_words, words_in_all, stride_of}

-- a thread that one fork starts
abbrev pub once : List Instr → Thread
once is = record { count = 1; instrs = is }

-- ---- a code with one thread that stops at once

abbrev pub empty_program : Program
empty_program = record { main = 0; codes = record { params = 0; results = 0; slots = 2; inlets = []; threads = once [] ∷ [] } ∷ [] }

-- the kernel for its image
abbrev pub kernel_of_empty : List ℕ
kernel_of_empty =
    2487 ∷ 470387091 ∷ 2615 ∷ 38406675 ∷ 2743 ∷ 445287059 ∷ 1043 ∷ 1171 ∷ 2323 ∷ 1427 ∷ 1555
    ∷ 4293920403 ∷ 1811 ∷ 50331759 ∷ 4465283 ∷ 169059 ∷ 1043 ∷ 9725235 ∷ 2195 ∷ 115 ∷ 4261743331 ∷ 1049235
    ∷ 240452195 ∷ 2097811 ∷ 106234467 ∷ 54887731 ∷ 20251955 ∷ 2495123 ∷ 22184627 ∷ 172675 ∷ 336419 ∷ 11871267 ∷ 172803
    ∷ 6628899 ∷ 13969955 ∷ 15019043 ∷ 4367107 ∷ 10683187 ∷ 198035 ∷ 243269743 ∷ 12756483 ∷ 16941715 ∷ 175619 ∷ 29564963
    ∷ 4358803 ∷ 8586003 ∷ 4294149011 ∷ 4261648099 ∷ 50331759 ∷ 54887731 ∷ 20251955 ∷ 12919427 ∷ 4592403 ∷ 6455987 ∷ 172803
    ∷ 10683187 ∷ 13836323 ∷ 4367747 ∷ 10847667 ∷ 8562179 ∷ 8388847 ∷ 4112511087 ∷ 369283 ∷ 4294083219 ∷ 5611555 ∷ 33725027
    ∷ 12951587 ∷ 4530947 ∷ 6660643 ∷ 11870755 ∷ 33755235 ∷ 8719971 ∷ 335907 ∷ 595555 ∷ 328851 ∷ 8388719 ∷ 11083811
    ∷ 330003 ∷ 32871 ∷ 268899 ∷ 295955 ∷ 271491 ∷ 300131 ∷ 2323 ∷ 4466051 ∷ 4563715 ∷ 6562339 ∷ 369283
    ∷ 163943 ∷ 17048195 ∷ 4294083219 ∷ 5515299 ∷ 3959592163 ∷ 8660227 ∷ 6293651 ∷ 115 ∷ 3953127535 ∷ 8561539 ∷ 7677987
    ∷ 29691411 ∷ 7211107 ∷ 925731 ∷ 5115411 ∷ 4284477551 ∷ 4028625007 ∷ []

-- the words behind the kernel
abbrev pub rest_of_empty : List ℕ
rest_of_empty = 373293159 ∷ 428 ∷ 448 ∷ 28 ∷ 1 ∷ 420 ∷ 1 ∷ []

kernel_is : map encoded (kernel 448 36 424 0) ≡ kernel_of_empty
kernel_is = refl

kernel_is_long : length kernel_of_empty ≡ kernel_words
kernel_is_long = refl

empty_is : image_words empty_program ≡ kernel_of_empty ++ rest_of_empty
empty_is = refl

empty_stride : stride_of empty_program ≡ 36
empty_stride = refl

-- ---- the sum of two params

abbrev pub sum_program : Program
sum_program = record {
  main = 0;
  codes = record {
    params = 2;
    results = 1;
    slots = 5;
    inlets = record { slot = 2; thread = 1 } ∷ record { slot = 3; thread = 1 } ∷ [];
    threads = once [] ∷ record { count = 2; instrs = Operate Add 4 2 3 ∷ Ret 0 4 ∷ [] } ∷ [];
  } ∷ [];
}

-- the words behind the kernel
abbrev pub rest_of_sum : List ℕ
rest_of_sum =
    373293159 ∷ 4023 ∷ 9408435 ∷ 30384771 ∷ 4023 ∷ 9408435 ∷ 34579203 ∷ 6455987 ∷ 4023 ∷ 9408435 ∷ 39821859
    ∷ 21243139 ∷ 25437571 ∷ 361875 ∷ 4023 ∷ 9408435 ∷ 38774275 ∷ 1050771 ∷ 115 ∷ 373293159 ∷ 504 ∷ 528
    ∷ 40 ∷ 2 ∷ 420 ∷ 1 ∷ 2 ∷ 28 ∷ 48 ∷ 424 ∷ 0 ∷ 32 ∷ 48
    ∷ 424 ∷ 0 ∷ []

sum_is : drop kernel_words (image_words sum_program) ≡ rest_of_sum
sum_is = refl

sum_is_long : words_in_all sum_program ≡ 140
sum_is_long = refl
