-- The text that is written of an accepted graph's thread code asks for the run of that code, and the file of its image for the run of the image.
use Rattle.std.proofs.Common.{false, ◌≡◌, ◌≢◌, ℕ, ◌≤◌, List, length, refl, sym, ap, subst, ◌∙◌, arith}
use Rattle.std.specs.Prelude.{Option, Some}
use Rattle.tam_word.proofs.Tests.{test-below}
use Rattle.tam_graph.specs.Graphs.{Graph, code_of, params_of}
use Rattle.tam_graph.specs.Accepted.{IsAccepted}
use Rattle.tam_words.specs.declared.mode.Mode.{Mode}
use Rattle.tam_words.specs.declared.mode.Mode.TheVariants as mode
use Rattle.tam_words.specs.declared.usage_cause.UsageCause.TheVariants.{ArgsCount}
use Rattle.tam_words.specs.Names.{makes}
use Rattle.tam_words.specs.Jobs.{Asked}
use Rattle.tam_input.specs.declared.ending.Ending.TheVariants as ending
use Rattle.tam_input.specs.Told.{Contents}
use Rattle.tam_input.specs.Refusing.{most_bytes, usage_line}
use Rattle.tam_input.specs.Inputs.{Request}
use Rattle.tl0_code.specs.ThreadCode.{CodeText, code_text}
use Rattle.tl0_code.specs.CodeTexts.{program_text}
use Rattle.tl0_keep.specs.Compiled.{compiled}
use Rattle.tl0_keep.specs.ThreadLaws.{CodeIsChecked}
use Rattle.tl0_keep.proofs.giving.Texts.{text-there, main-same}
use Rattle.tam_fits.specs.ShortTexts.{TextsByPairsAreShort}
use Rattle.tam_fits.specs.FileLaws.{ImagesAreInRange, ImagesHaveWords, FilesAreShort}
use Rattle.rv_image.specs.ImageFiles.{image_bytes}
use Rattle.rv_inst.specs.Images.{Image}
use Rattle.rv_keep.specs.Image.{image_of}
use Rattle.tam.specs.GraphAnswers.{listing}
use Rattle.tam.specs.CodeAnswers.{SpellsCode, AsksCode, wrong_count, main_params}
use Rattle.tam.specs.ImageAnswers.{SpellsImage, AsksImage}
use Rattle.tam.specs.ImageAnswers as of_file
use Rattle.tam.specs.Due.{IsDue, of_code, of_image}
use Rattle.tam.specs.Asks.{AsksText, AsksEmitted}

-- one text is one text
text-once : (a b : List ℕ) → ◌≡◌ {A = Option (List ℕ)} (Some a) (Some b) → a ≡ b
text-once a b e = cc

-- `main` of a graph's code has the graph's params
main-params : (g : Graph) → IsAccepted g → main_params (compiled g) ≡ params_of (code_of g g.main)
main-params g accepted = ap (λ n. (code_text (compiled g) n).params) (main-same g)
    ∙ ap (λ (t : CodeText). t.params) (text-there g g.main (test-below g.main (length g.codes) accepted.has_main))

-- so has that of its image
image-params : (g : Graph) → IsAccepted g → (image_of (compiled g)).params ≡ params_of (code_of g g.main)
unfolding image_of
image-params g accepted = main-params g accepted

module _ (written asked : Mode) (words : Asked) (contents : Contents) (g : Graph) (ask : Request) (asks : AsksEmitted written asked words contents g ask) where
  -- a text that is written of a graph, and is short enough to be read, is asked for
  pub emitted-input : (text : List ℕ) → listing written g ≡ Some text → length text ≤ most_bytes asked → AsksText words contents ask text
  emitted-input text is few = record {
    job = asks.job;
    order = asks.order;
    asked = asks.asked;
    same = asks.same;
    ordered = asks.ordered;
    text = text-once _ _ (asks.text ∙ is);
    few = subst (λ m. length text ≤ most_bytes m) (sym asks.mode_is) few;
  }

  -- in this mode
  pub emitted-mode : ask.mode ≡ asked
  emitted-mode = ap (λ (r : Request). r.mode) asks.same ∙ asks.mode_is

  -- so no input is made where the mode makes none
  pub emitted-makes : makes asked ≡ false → makes ask.mode ≡ false
  emitted-makes none = ap makes emitted-mode ∙ none

module _ (checked : CodeIsChecked) (g : Graph) (accepted : IsAccepted g) (ask : Request) (mode-is : ask.mode ≡ mode.ExecTl0) where
  -- the text of a graph's thread code spells that code, which has no fault
  spelled : SpellsCode (program_text (compiled g)) (compiled g)
  spelled = record { reads = record { within = (checked g accepted).within; text = refl }; checked = checked g accepted }

  -- so its run is asked for, where there is one argument for each param
  pub emitted-code : length ask.args ≡ params_of (code_of g g.main) → AsksCode ask (program_text (compiled g)) (compiled g)
  emitted-code one = record { mode = mode-is; spelled = spelled; one_each = one ∙ sym (main-params g accepted) }

  -- and a wrong count is due elsewhere
  pub emitted-code-count : length ask.args ≢ params_of (code_of g g.main) → IsDue ask (program_text (compiled g)) ending.Usage (usage_line ArgsCount)
  emitted-code-count differ = of_code mode-is (wrong_count spelled (λ e. differ (e ∙ main-params g accepted)))

-- the text of a graph's thread code is short enough to be read
pub code-short : TextsByPairsAreShort → (g : Graph) → IsAccepted g → length (program_text (compiled g)) ≤ most_bytes mode.ExecTl0
code-short short g accepted = let s = short g accepted in omega (arith, s)

module _ (in-range : ImagesAreInRange) (words : ImagesHaveWords) (g : Graph) (accepted : IsAccepted g) (ask : Request)
    (mode-is : ask.mode ≡ mode.ExecRv32) where
  abbrev image : Image
  image = image_of (compiled g)

  -- the file of a graph's image is that of this image
  spelled-file : SpellsImage (image_bytes image) image
  spelled-file = record { in_range = in-range g accepted; words = words g accepted; file = refl }

  -- so its run is asked for, where there is one argument for each param
  pub emitted-image : length ask.args ≡ params_of (code_of g g.main) → AsksImage ask (image_bytes image) image
  emitted-image one = record { mode = mode-is; spelled = spelled-file; one_each = one ∙ sym (image-params g accepted) }

  -- and a wrong count is due elsewhere
  pub emitted-image-count : length ask.args ≢ params_of (code_of g g.main) → IsDue ask (image_bytes image) ending.Usage (usage_line ArgsCount)
  emitted-image-count differ = of_image mode-is (of_file.wrong_count spelled-file (λ e. differ (e ∙ image-params g accepted)))

-- the file of a graph's image is short enough to be read
pub file-short : FilesAreShort → (g : Graph) → IsAccepted g → length (image_bytes (image_of (compiled g))) ≤ most_bytes mode.ExecRv32
file-short short g accepted = (short g accepted).0
