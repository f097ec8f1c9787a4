-- A text without a fault reads as the program that its lines say.
use Rattle.std.proofs.Common.{◌≡◌, ℕ, zero, suc, ◌^◌, ◌≤◌, ◌<◌, List, [], ◌∷◌, flat_map, refl, sym, ap, ◌∙◌, arith, length}
use Rattle.std.specs.Prelude.{slice_get}
use Rattle.std.specs.List.{AllByRecursion}
use Rattle.std.proofs.lemmas.Bool.{ltb-true}
use Rattle.tam_text.specs.Lines.{lines_of}
use Rattle.tl0_code.specs.declared.code_line.CodeLine.{CodeLine}
use Rattle.tl0_code.specs.declared.code_line.CodeLine.TheVariants.{Version, Counts}
use Rattle.tl0_code.specs.ThreadCode.{CodeText, or_text, IsCodeText, IsProgram}
use Rattle.tl0_code.specs.CodeTexts.{text_lines, program_lines}
use Rattle.tl0_text.specs.declared.next.Next.{Next}
use Rattle.tl0_text.specs.declared.next.Next.TheVariants as next
use Rattle.tl0_text.specs.Reading.{Said, Reads0, nothing_said, faults, said_from, program_of}
use Rattle.tl0_text.specs.Sound.{IsSound}
use Rattle.tl0_text.proofs.Cutting.{lines-end, lines-joined, lines-few}
use Rattle.tl0_text.proofs.Limits.{stage-at, IsWorded}
use Rattle.tl0_text.proofs.Sayings.{line_text, said_lines, Outcome, outcome}

-- before the first line
pub first-sound : IsSound nothing_said
first-sound = record { few_slots = omega arith; few_inlets = omega arith; few_threads = omega arith; few_codes = omega arith; stage = refl }

-- no number was said
first-worded : IsWorded nothing_said
first-worded = record { main = refl; done = tt; params = refl; results = refl; inlets = refl; threads = refl; count = refl; instrs = refl }

-- what each of a list has, the one at a place has
pub each-place : (cs : List CodeText) (n : ℕ) → AllByRecursion IsCodeText cs → n < length cs → IsCodeText (or_text (slice_get cs n))
each-place [] n h l = absurd (omega arith)
each-place (c ∷ cs) zero h l = h.0
each-place (c ∷ cs) (suc n) h l = each-place cs n h.1 (omega arith)

module _ (bytes : List ℕ) (short : length bytes ≤ 67108864) (clean : faults bytes ≡ []) where
  -- what the lines say
  abbrev all : Said
  all = said_from nothing_said (lines_of bytes)

  -- what is known of it
  behind : Outcome nothing_said (lines_of bytes)
  behind = outcome nothing_said 1 (lines_of bytes) (lines-end bytes) clean first-sound first-worded

  -- each code was said
  done-all : (length all.done ≡ all.number) × (0 < all.number)
  done-all = stage-at next.Done all behind.done behind.sound

  -- it is a program
  is-program : IsProgram (program_of bytes)
  is-program = record {
    some_code = let d = done-all in omega arith;
    few_codes = let d = done-all in let few = behind.sound.few_codes in omega arith;
    each_code = λ n l. each-place all.done n behind.worded.done l;
    few_instrs = let few = behind.few in let lines = lines-few bytes in omega arith;
    word = ltb-true all.main (2 ^ 32) behind.worded.main;
  }

  -- the lines that were said are those of the program
  lines-said : said_lines all.next all ≡ program_lines (program_of bytes)
  lines-said =
      ap (λ (k : Next). said_lines k all) behind.done
      ∙ ap (λ (n : ℕ). Version ∷ Counts n all.main ∷ flat_map text_lines all.done) (sym done-all.0)

  -- so it reads
  pub texts-read : Reads0 bytes (program_of bytes)
  texts-read = record {
    within = is-program;
    text = sym (lines-joined bytes) ∙ sym behind.text ∙ ap (λ (ls : List CodeLine). flat_map line_text ls) lines-said;
  }
