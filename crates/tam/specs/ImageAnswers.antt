-- What is due to the file of an image, and which run of an image is asked for.
-- The rule in words: docs/FORMATS.md, "Command line"; docs/MACHINE.md, "Image file" and "The host".
use Rattle.std.specs.Prelude.{ℕ, ◌^◌, ◌≡◌, ◌≢◌, List, length, Some}
use Rattle.tam_run.specs.Accounts.{Account, image_account}
use Rattle.tam_words.specs.declared.mode.Mode.TheVariants as mode
use Rattle.tam_words.specs.declared.usage_cause.UsageCause.TheVariants.{ArgsCount}
use Rattle.tam_input.specs.declared.ending.Ending.{Ending}
use Rattle.tam_input.specs.declared.ending.Ending.TheVariants as ending
use Rattle.tam_input.specs.Refusing.{usage_line}
use Rattle.tam_input.specs.Inputs.{Request}
use Rattle.rv_inst.specs.Images.{Image}
use Rattle.rv_image.specs.declared.image_error.ImageCause.{ImageCause}
use Rattle.rv_image.specs.ImageFiles.{IsImage, image_bytes, fault_of}
use Rattle.rv_image.specs.ImageLaws.{AreBelow}
use Rattle.tam.specs.AnswerLines.{refused_byte_line, image_cause_name}

-- the bytes are the file of an image of words whose numbers are in their ranges
pub record SpellsImage (bytes : List ℕ) (image : Image) : Type 0 where
  pub in_range : IsImage image
  pub words : AreBelow (2 ^ 32) image.words
  pub file : bytes ≡ image_bytes image

-- what the run of an image that is asked for tells
abbrev pub image_run_of : Request → Image → Account
image_run_of ask image = image_account image ask.args ask.order ask.limits

-- a run of the image of the bytes is asked for, and each param of its `main` has an argument
pub record AsksImage (ask : Request) (bytes : List ℕ) (image : Image) : Type 0 where
  pub mode : ask.mode ≡ mode.ExecRv32
  pub spelled : SpellsImage bytes image
  pub one_each : length ask.args ≡ image.params

-- by what is asked of these bytes as the file of an image, the ending and the text that are due where no run is
pub data ImageDue (ask : Request) (bytes : List ℕ) : Ending → List ℕ → Type 0 where
  -- the bytes are the file of no image
  not_image : {n : ℕ} {cause : ImageCause} → fault_of bytes ≡ Some (n, cause)
      → ImageDue ask bytes ending.Refused (refused_byte_line n (image_cause_name cause))
  -- or of one that has another number of params than there are arguments
  wrong_count : {image : Image} → SpellsImage bytes image → length ask.args ≢ image.params → ImageDue ask bytes ending.Usage (usage_line ArgsCount)
