-- Images of thread code with every instruction and every operator, word by word, and runs of them, by computation. The words were written by a
-- program of its own, apart from these definitions.
-- The rules in words: docs/MACHINE.md, "Machine code".
use Rattle.std.specs.Prelude.{◌≡◌, ℕ, refl, List, [], ◌∷◌, drop}
use Rattle.tam_word.specs.declared.op.Op.TheVariants.{Add, Sub, Mul, Div, Divu, Rem, Remu, And, Or, Xor, Sll, Srl, Sra, Slt, Sltu, Eq}
use Rattle.tam_msgs.specs.Runs.{Quiet, Frames_full}
use Rattle.tl0_code.specs.declared.instr.Instr.TheVariants.{Imm, Mov, Op as Operate, Fork, Switch, Falloc, Send, Ret, Ialloc, Ifetch, Istore, Skip}
use Rattle.tl0_code.specs.ThreadCode.{Program}
use Rattle.rv_inst.specs.Instructions as instructions
use Rattle.rv_inst.specs.Images.{Image}
use Rattle.rv_keep.specs.KernelPlaces.{kernel_words}
use Rattle.rv_keep.specs.Image.{image_words, stride_of}
use Rattle.rv_examples.specs.ImageExamples.{once}
use Rattle.rv_examples.specs.RunExamples.{told_with}

-- ---- a call, and a call in a branch

abbrev pub branch_program : Program
branch_program = record {
  main = 0;
  codes = record {
    params = 1;
    results = 1;
    slots = 10;
    inlets = record { slot = 2; thread = 1 } ∷ record { slot = 3; thread = 1 } ∷ record { slot = 4; thread = 3 } ∷ record { slot = 6; thread = 5 } ∷
        record { slot = 7; thread = 7 } ∷ [];
    threads =
        once (Fork 2 ∷ []) ∷
        record { count = 2; instrs = Send 3 0 2 ∷ [] } ∷
        once (Falloc 1 1 ∷ []) ∷
        once (Switch 4 9 10 ∷ Switch 4 11 12 ∷ []) ∷
        once (Ret 0 9 ∷ []) ∷
        record { count = 2; instrs = Send 6 0 5 ∷ [] } ∷
        once (Falloc 1 3 ∷ []) ∷
        once (Mov 9 7 ∷ Fork 4 ∷ []) ∷
        once (Mov 9 8 ∷ Fork 4 ∷ []) ∷
        once (Skip 3 ∷ Fork 6 ∷ []) ∷
        once (Skip 5 ∷ []) ∷
        once (Mov 5 4 ∷ Fork 5 ∷ []) ∷
        once (Mov 8 4 ∷ Fork 8 ∷ []) ∷
        [];
  } ∷ record {
    params = 1;
    results = 1;
    slots = 5;
    inlets = record { slot = 2; thread = 1 } ∷ [];
    threads =
        once [] ∷
        once (Imm 3 1 ∷ Operate Add 4 2 3 ∷ Ret 0 4 ∷ []) ∷
        [];
  } ∷ [];
}

-- the words behind the kernel
abbrev pub rest_of_branch : List ℕ
rest_of_branch =
    263443 ∷ 1463 ∷ 80053651 ∷ 8750515 ∷ 1591 ∷ 520488467 ∷ 260047079 ∷ 373293159 ∷ 4023 ∷ 9408435 ∷ 34579715
    ∷ 1463 ∷ 361875 ∷ 4023 ∷ 9408435 ∷ 30385667 ∷ 1050771 ∷ 115 ∷ 373293159 ∷ 1049875 ∷ 8660355 ∷ 1591
    ∷ 1443347 ∷ 2099347 ∷ 115 ∷ 373293159 ∷ 4023 ∷ 9408435 ∷ 38773379 ∷ 33718883 ∷ 263443 ∷ 1463 ∷ 138773907
    ∷ 8750515 ∷ 1591 ∷ 944113171 ∷ 260047079 ∷ 33554543 ∷ 263443 ∷ 1463 ∷ 147162515 ∷ 8750515 ∷ 1591 ∷ 998639123
    ∷ 260047079 ∷ 4023 ∷ 9408435 ∷ 38773379 ∷ 33718883 ∷ 263443 ∷ 1463 ∷ 155551123 ∷ 8750515 ∷ 1591 ∷ 1023804947
    ∷ 260047079 ∷ 33554543 ∷ 263443 ∷ 1463 ∷ 163939731 ∷ 8750515 ∷ 1591 ∷ 1082525203 ∷ 260047079 ∷ 373293159 ∷ 21243139
    ∷ 25437571 ∷ 361875 ∷ 4023 ∷ 9408435 ∷ 59745795 ∷ 1050771 ∷ 115 ∷ 373293159 ∷ 4023 ∷ 9408435 ∷ 47162627
    ∷ 1463 ∷ 361875 ∷ 4023 ∷ 9408435 ∷ 42968579 ∷ 1050771 ∷ 115 ∷ 373293159 ∷ 1049875 ∷ 8660355 ∷ 1591
    ∷ 3540499 ∷ 2099347 ∷ 115 ∷ 373293159 ∷ 4023 ∷ 9408435 ∷ 51356291 ∷ 4023 ∷ 9408435 ∷ 39824419 ∷ 263443
    ∷ 1463 ∷ 96830867 ∷ 8750515 ∷ 1591 ∷ 713426451 ∷ 260047079 ∷ 373293159 ∷ 4023 ∷ 9408435 ∷ 55550595 ∷ 4023
    ∷ 9408435 ∷ 39824419 ∷ 263443 ∷ 1463 ∷ 96830867 ∷ 8750515 ∷ 1591 ∷ 713426451 ∷ 260047079 ∷ 373293159 ∷ 17048195
    ∷ 823 ∷ 3343123 ∷ 1080197811 ∷ 5515299 ∷ 263443 ∷ 1463 ∷ 113608083 ∷ 8750515 ∷ 1591 ∷ 797312531 ∷ 260047079
    ∷ 373293159 ∷ 17048195 ∷ 823 ∷ 5440275 ∷ 1080197811 ∷ 5515299 ∷ 373293159 ∷ 4023 ∷ 9408435 ∷ 38773379 ∷ 4023
    ∷ 9408435 ∷ 39822371 ∷ 263443 ∷ 1463 ∷ 105219475 ∷ 8750515 ∷ 1591 ∷ 751175187 ∷ 260047079 ∷ 373293159 ∷ 4023
    ∷ 9408435 ∷ 38773379 ∷ 4023 ∷ 9408435 ∷ 39823907 ∷ 263443 ∷ 1463 ∷ 130385299 ∷ 8750515 ∷ 1591 ∷ 885392915
    ∷ 260047079 ∷ 373293159 ∷ 373293159 ∷ 695 ∷ 1213075 ∷ 4023 ∷ 9408435 ∷ 39821347 ∷ 4023 ∷ 9408435 ∷ 30384771
    ∷ 4023 ∷ 9408435 ∷ 34579203 ∷ 6455987 ∷ 4023 ∷ 9408435 ∷ 39821859 ∷ 21243139 ∷ 25437571 ∷ 361875 ∷ 4023
    ∷ 9408435 ∷ 38774275 ∷ 1050771 ∷ 115 ∷ 373293159 ∷ 1196 ∷ 1344 ∷ 1264 ∷ 60 ∷ 13 ∷ 420
    ∷ 1 ∷ 2 ∷ 1 ∷ 1 ∷ 1 ∷ 2 ∷ 1 ∷ 1 ∷ 1 ∷ 1 ∷ 1
    ∷ 1 ∷ 1 ∷ 28 ∷ 68 ∷ 452 ∷ 0 ∷ 32 ∷ 68 ∷ 452 ∷ 0 ∷ 36
    ∷ 84 ∷ 524 ∷ 0 ∷ 44 ∷ 100 ∷ 716 ∷ 0 ∷ 48 ∷ 116 ∷ 788 ∷ 0
    ∷ 1368 ∷ 40 ∷ 2 ∷ 1088 ∷ 1 ∷ 1 ∷ 28 ∷ 48 ∷ 1092 ∷ 0 ∷ []

branch_is : drop kernel_words (image_words branch_program) ≡ rest_of_branch
branch_is = refl

-- its image
abbrev pub branch_image : Image
branch_image = record { stride = stride_of branch_program; params = 1; results = 1; words = image_words branch_program }

-- with two frames it ends; the second call has the first callee's frame again
branch_run : told_with branch_image (4 ∷ []) 2 16 ≡ ((0, 6) ∷ [], Quiet, 24, 3, 1103)
unfolding instructions.decoded
branch_run = refl

-- with one frame the wish for a second is refused
branch_full : told_with branch_image (4 ∷ []) 1 16 ≡ ([], Frames_full 1, 4, 1, 261)
unfolding instructions.decoded
branch_full = refl

-- ---- every instruction and every operator

abbrev pub every_program : Program
every_program = record {
  main = 0;
  codes = record {
    params = 2;
    results = 1;
    slots = 32;
    inlets = record { slot = 2; thread = 1 } ∷ record { slot = 3; thread = 1 } ∷ record { slot = 21; thread = 3 } ∷ record { slot = 24; thread = 4 } ∷
        record { slot = 25; thread = 4 } ∷ record { slot = 26; thread = 5 } ∷ [];
    threads =
        once (Fork 2 ∷ []) ∷
        record {
          count = 3;
          instrs = Operate Sub 4 2 3 ∷ Operate Mul 5 4 3 ∷ Operate Div 6 5 3 ∷ Operate Divu 7 6 3 ∷ Operate Rem 8 7 2 ∷ Operate Remu 9 8 2 ∷ Operate And 10 9
              2 ∷
              Operate Or 11 10 2 ∷ Operate Xor 12 11 3 ∷ Operate Sll 13 12 3 ∷ Operate Srl 14 13 3 ∷ Operate Sra 15 14 3 ∷ Operate Slt 16 15 3 ∷
              Operate Sltu 17 16 3 ∷ Operate Eq 18 17 3 ∷ Imm 19 1 ∷ Istore 21 23 18 22 ∷ [];
        } ∷
        once (Imm 20 2 ∷ Ialloc 20 2 ∷ Falloc 1 4 ∷ Fork 3 ∷ []) ∷
        record { count = 2; instrs = Mov 22 20 ∷ Operate Sub 23 22 20 ∷ Ifetch 21 23 3 23 ∷ Fork 1 ∷ [] } ∷
        record { count = 2; instrs = Send 25 0 24 ∷ [] } ∷
        once (Switch 26 9 10 ∷ Switch 26 11 12 ∷ []) ∷
        once (Ret 0 31 ∷ []) ∷
        once (Imm 28 4294964296 ∷ Operate Add 29 27 28 ∷ Mov 31 29 ∷ Fork 6 ∷ []) ∷
        once (Mov 31 30 ∷ Fork 6 ∷ []) ∷
        once (Skip 3 ∷ []) ∷
        once (Skip 3 ∷ []) ∷
        once (Mov 27 26 ∷ Fork 7 ∷ []) ∷
        once (Mov 30 26 ∷ Fork 8 ∷ []) ∷
        [];
  } ∷ record {
    params = 1;
    results = 1;
    slots = 5;
    inlets = record { slot = 2; thread = 1 } ∷ [];
    threads =
        once [] ∷
        once (Imm 3 1 ∷ Operate Add 4 2 3 ∷ Ret 0 4 ∷ []) ∷
        [];
  } ∷ [];
}

-- the words behind the kernel
abbrev pub rest_of_every : List ℕ
rest_of_every =
    263443 ∷ 1463 ∷ 172328339 ∷ 8750515 ∷ 1591 ∷ 1187382803 ∷ 260047079 ∷ 373293159 ∷ 4023 ∷ 9408435 ∷ 30384771
    ∷ 4023 ∷ 9408435 ∷ 34579203 ∷ 1080197811 ∷ 4023 ∷ 9408435 ∷ 39821859 ∷ 4023 ∷ 9408435 ∷ 38773379 ∷ 4023
    ∷ 9408435 ∷ 34579203 ∷ 40010419 ∷ 4023 ∷ 9408435 ∷ 39822371 ∷ 4023 ∷ 9408435 ∷ 42967683 ∷ 4023 ∷ 9408435
    ∷ 34579203 ∷ 40026803 ∷ 4023 ∷ 9408435 ∷ 39822883 ∷ 4023 ∷ 9408435 ∷ 47161987 ∷ 4023 ∷ 9408435 ∷ 34579203
    ∷ 40030899 ∷ 4023 ∷ 9408435 ∷ 39823395 ∷ 4023 ∷ 9408435 ∷ 51356291 ∷ 4023 ∷ 9408435 ∷ 30384899 ∷ 40034995
    ∷ 4023 ∷ 9408435 ∷ 39823907 ∷ 4023 ∷ 9408435 ∷ 55550595 ∷ 4023 ∷ 9408435 ∷ 30384899 ∷ 40039091 ∷ 4023
    ∷ 9408435 ∷ 39824419 ∷ 4023 ∷ 9408435 ∷ 59744899 ∷ 4023 ∷ 9408435 ∷ 30384899 ∷ 6484659 ∷ 4023 ∷ 9408435
    ∷ 39824931 ∷ 4023 ∷ 9408435 ∷ 63939203 ∷ 4023 ∷ 9408435 ∷ 30384899 ∷ 6480563 ∷ 4023 ∷ 9408435 ∷ 73375779
    ∷ 4023 ∷ 9408435 ∷ 68133507 ∷ 4023 ∷ 9408435 ∷ 34579203 ∷ 6472371 ∷ 4023 ∷ 9408435 ∷ 73376291 ∷ 4023
    ∷ 9408435 ∷ 72327811 ∷ 4023 ∷ 9408435 ∷ 34579203 ∷ 6460083 ∷ 4023 ∷ 9408435 ∷ 73376803 ∷ 4023 ∷ 9408435
    ∷ 76522115 ∷ 4023 ∷ 9408435 ∷ 34579203 ∷ 6476467 ∷ 4023 ∷ 9408435 ∷ 73377315 ∷ 4023 ∷ 9408435 ∷ 80716419
    ∷ 4023 ∷ 9408435 ∷ 34579203 ∷ 1080218291 ∷ 4023 ∷ 9408435 ∷ 73377827 ∷ 4023 ∷ 9408435 ∷ 84910723 ∷ 4023
    ∷ 9408435 ∷ 34579203 ∷ 6464179 ∷ 4023 ∷ 9408435 ∷ 73378339 ∷ 4023 ∷ 9408435 ∷ 89105027 ∷ 4023 ∷ 9408435
    ∷ 34579203 ∷ 6468275 ∷ 4023 ∷ 9408435 ∷ 73378851 ∷ 4023 ∷ 9408435 ∷ 93299331 ∷ 4023 ∷ 9408435 ∷ 34579203
    ∷ 1080197811 ∷ 1225363 ∷ 4023 ∷ 9408435 ∷ 73379363 ∷ 695 ∷ 1213075 ∷ 4023 ∷ 9408435 ∷ 106930211 ∷ 4023
    ∷ 9408435 ∷ 110077187 ∷ 4023 ∷ 9408435 ∷ 118465923 ∷ 4023 ∷ 9408435 ∷ 97494531 ∷ 1719 ∷ 23496339 ∷ 5245075
    ∷ 115 ∷ 373293159 ∷ 695 ∷ 2261651 ∷ 4023 ∷ 9408435 ∷ 106930723 ∷ 4023 ∷ 9408435 ∷ 105882883 ∷ 8660355
    ∷ 1591 ∷ 2491923 ∷ 3147923 ∷ 115 ∷ 1049875 ∷ 8660355 ∷ 1591 ∷ 4589075 ∷ 2099347 ∷ 115 ∷ 263443
    ∷ 1463 ∷ 180716947 ∷ 8750515 ∷ 1591 ∷ 1300629011 ∷ 260047079 ∷ 373293159 ∷ 4023 ∷ 9408435 ∷ 105882243 ∷ 4023
    ∷ 9408435 ∷ 106931747 ∷ 4023 ∷ 9408435 ∷ 114270851 ∷ 4023 ∷ 9408435 ∷ 105882371 ∷ 1080197811 ∷ 4023 ∷ 9408435
    ∷ 106932259 ∷ 4023 ∷ 9408435 ∷ 110077187 ∷ 4023 ∷ 9408435 ∷ 118465923 ∷ 8660483 ∷ 1719 ∷ 3573395 ∷ 1847
    ∷ 24577811 ∷ 4196499 ∷ 115 ∷ 263443 ∷ 1463 ∷ 163939731 ∷ 8750515 ∷ 1591 ∷ 474351123 ∷ 260047079 ∷ 373293159
    ∷ 4023 ∷ 9408435 ∷ 126854403 ∷ 1463 ∷ 361875 ∷ 4023 ∷ 9408435 ∷ 122660355 ∷ 1050771 ∷ 115 ∷ 373293159
    ∷ 4023 ∷ 9408435 ∷ 131048067 ∷ 33718883 ∷ 263443 ∷ 1463 ∷ 231048595 ∷ 8750515 ∷ 1591 ∷ 1883637267 ∷ 260047079
    ∷ 33554543 ∷ 263443 ∷ 1463 ∷ 239437203 ∷ 8750515 ∷ 1591 ∷ 1908803091 ∷ 260047079 ∷ 4023 ∷ 9408435 ∷ 131048067
    ∷ 33718883 ∷ 263443 ∷ 1463 ∷ 247825811 ∷ 8750515 ∷ 1591 ∷ 1933968915 ∷ 260047079 ∷ 33554543 ∷ 263443 ∷ 1463
    ∷ 256214419 ∷ 8750515 ∷ 1591 ∷ 1992689171 ∷ 260047079 ∷ 373293159 ∷ 21243139 ∷ 25437571 ∷ 361875 ∷ 4023 ∷ 9408435
    ∷ 152020483 ∷ 1050771 ∷ 115 ∷ 373293159 ∷ 4294963895 ∷ 1149403795 ∷ 4023 ∷ 9408435 ∷ 140485155 ∷ 4023 ∷ 9408435
    ∷ 135242371 ∷ 4023 ∷ 9408435 ∷ 139436803 ∷ 6455987 ∷ 4023 ∷ 9408435 ∷ 140485667 ∷ 4023 ∷ 9408435 ∷ 143630979
    ∷ 4023 ∷ 9408435 ∷ 140486691 ∷ 263443 ∷ 1463 ∷ 205882771 ∷ 8750515 ∷ 1591 ∷ 1665533459 ∷ 260047079 ∷ 373293159
    ∷ 4023 ∷ 9408435 ∷ 147825283 ∷ 4023 ∷ 9408435 ∷ 140486691 ∷ 263443 ∷ 1463 ∷ 205882771 ∷ 8750515 ∷ 1591
    ∷ 1665533459 ∷ 260047079 ∷ 373293159 ∷ 17048195 ∷ 823 ∷ 3343123 ∷ 1080197811 ∷ 5515299 ∷ 373293159 ∷ 17048195 ∷ 823
    ∷ 3343123 ∷ 1080197811 ∷ 5515299 ∷ 373293159 ∷ 4023 ∷ 9408435 ∷ 131048067 ∷ 4023 ∷ 9408435 ∷ 140484643 ∷ 263443
    ∷ 1463 ∷ 214271379 ∷ 8750515 ∷ 1591 ∷ 1703282195 ∷ 260047079 ∷ 373293159 ∷ 4023 ∷ 9408435 ∷ 131048067 ∷ 4023
    ∷ 9408435 ∷ 140486179 ∷ 263443 ∷ 1463 ∷ 222659987 ∷ 8750515 ∷ 1591 ∷ 1824917011 ∷ 260047079 ∷ 373293159 ∷ 373293159
    ∷ 695 ∷ 1213075 ∷ 4023 ∷ 9408435 ∷ 39821347 ∷ 4023 ∷ 9408435 ∷ 30384771 ∷ 4023 ∷ 9408435 ∷ 34579203
    ∷ 6455987 ∷ 4023 ∷ 9408435 ∷ 39821859 ∷ 21243139 ∷ 25437571 ∷ 361875 ∷ 4023 ∷ 9408435 ∷ 38774275 ∷ 1050771
    ∷ 115 ∷ 373293159 ∷ 2064 ∷ 2228 ∷ 2132 ∷ 148 ∷ 13 ∷ 420 ∷ 1 ∷ 3 ∷ 1
    ∷ 2 ∷ 2 ∷ 1 ∷ 1 ∷ 1 ∷ 1 ∷ 1 ∷ 1 ∷ 1 ∷ 1 ∷ 28
    ∷ 156 ∷ 452 ∷ 0 ∷ 32 ∷ 156 ∷ 452 ∷ 0 ∷ 104 ∷ 172 ∷ 1240 ∷ 0
    ∷ 116 ∷ 180 ∷ 1388 ∷ 0 ∷ 120 ∷ 180 ∷ 1388 ∷ 0 ∷ 124 ∷ 188 ∷ 1432
    ∷ 0 ∷ 2252 ∷ 40 ∷ 2 ∷ 1956 ∷ 1 ∷ 1 ∷ 28 ∷ 48 ∷ 1960 ∷ 0 ∷ []

every_is : drop kernel_words (image_words every_program) ≡ rest_of_every
every_is = refl

every_stride : stride_of every_program ≡ 252
every_stride = refl

-- its image
abbrev pub every_image : Image
every_image = record { stride = stride_of every_program; params = 2; results = 1; words = image_words every_program }

-- an array, a call and a branch; the result is -2999
every_run : told_with every_image (7 ∷ 3 ∷ []) 2 16 ≡ ((0, 4294964297) ∷ [], Quiet, 24, 2, 1254)
unfolding instructions.decoded
every_run = refl
