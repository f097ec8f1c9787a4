-- Runs of images, step by step, by computation: what they print, how they end, and the numbers of events, activations and instructions.
-- The rules in words: docs/MACHINE.md, "Machine code".
use Rattle.std.specs.Prelude.{◌≡◌, ℕ, refl, List, [], ◌∷◌, map, codes}
use Rattle.tam_msgs.specs.Runs.{End, Quiet, Wild, Wild_ecall, Wild_frame, Trap}
use Rattle.rv_inst.specs.declared.inst.Inst.{Inst}
use Rattle.rv_inst.specs.declared.inst.Inst.TheVariants.{Ecall, Ebreak}
use Rattle.rv_inst.specs.Instructions as instructions
use Rattle.rv_inst.specs.Instructions.{encoded}
use Rattle.rv_inst.specs.Images.{Image}
use Rattle.rv_keep.specs.Image.{image_words, stride_of}
use Rattle.rv_keep.specs.Expansions.{addi}
use Rattle.rv_keep.specs.HostRuns.{host_run}
use Rattle.rv_examples.specs.ImageExamples.{empty_program, sum_program}

-- the results, the end, the events, the activations and the instructions of a run with so many frames and cells
abbrev pub told_with : Image → List ℕ → ℕ → ℕ → (List (ℕ × ℕ)) × End × ℕ × ℕ × ℕ
told_with image args frames cells = (
    let e = host_run image args [] (record { budget = 1000; frames = frames; cells = cells }) in
    ((e.1).printed, e.0, (e.1).events, (e.1).activations, (e.1).hart.steps)
    )

-- with one frame
abbrev pub told : Image → List ℕ → (List (ℕ × ℕ)) × End × ℕ × ℕ × ℕ
told image args = told_with image args 1 1

-- the image of the code that stops at once
abbrev pub empty_image : Image
empty_image = record { stride = stride_of empty_program; params = 0; results = 0; words = image_words empty_program }

empty_run : told empty_image [] ≡ ([], Quiet, 1, 1, 92)
unfolding instructions.decoded
empty_run = refl

-- the image of the sum of two params
abbrev pub sum_image : Image
sum_image = record { stride = stride_of sum_program; params = 2; results = 1; words = image_words sum_program }

sum_run : told sum_image (2 ∷ 3 ∷ []) ≡ ((0, 5) ∷ [], Quiet, 5, 1, 219)
unfolding instructions.decoded
sum_run = refl

-- ---- images by hand

-- an image of instructions alone
abbrev pub by_hand : List Inst → Image
by_hand is = record { stride = 32; params = 0; results = 0; words = map encoded is }

-- a call that isn't there, counted as carried out
wild_call : told (by_hand (addi 17 0 9 ∷ Ecall ∷ [])) [] ≡ ([], Wild Wild_ecall 9, 0, 1, 2)
unfolding instructions.decoded
wild_call = refl

-- frame 0 given back, and again
given_twice : told (by_hand (addi 17 0 6 ∷ Ecall ∷ Ecall ∷ [])) [] ≡ ([], Wild Wild_frame 0, 0, 1, 3)
unfolding instructions.decoded
given_twice = refl

-- a break isn't counted
break_trap : told (by_hand (Ebreak ∷ [])) [] ≡ ([], Trap 0 (codes "Break"), 0, 1, 0)
unfolding instructions.decoded
break_trap = refl
