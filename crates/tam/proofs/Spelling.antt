-- Bytes spell one thing: one graph, one thread code, one image as text or as file; and where they spell it, it has no fault.
use Rattle.std.proofs.Common.{◌≡◌, ℕ, List, [], ◌∷◌, take, sym, ap, ◌∙◌}
use Rattle.std.specs.Prelude.{Option, Some, None}
use Rattle.tam_graph.specs.declared.place.Place.{Place}
use Rattle.tam_graph.specs.declared.check_cause.CheckCause.{CheckCause}
use Rattle.tam_graph.specs.Graphs.{Graph}
use Rattle.tam_graph.specs.Reading.{Reads}
use Rattle.tam_graph.specs.Accepted.{IsAccepted}
use Rattle.tam_read.specs.declared.cause.ReadCause.{ReadCause}
use Rattle.tam_read.specs.Faults.{first_fault}
use Rattle.tam_read.proofs.Complete.{complete}
use Rattle.tam_check.specs.FirstFault.{first_fault as first_refused}
use Rattle.tl0_code.specs.declared.bad_cause.BadCause.{BadCause}
use Rattle.tl0_code.specs.ThreadCode.{Program}
use Rattle.tl0_code.specs.CodeRules.{IsChecked, first_among, first_fault as first_in_code}
use Rattle.tl0_text.specs.declared.cause.Cause0.{Cause0}
use Rattle.tl0_text.specs.Reading.{Reads0, first_fault as first_in_text}
use Rattle.tl0_text.proofs.ProgramsBack.{texts-back}
use Rattle.rv_inst.specs.Images.{Image}
use Rattle.rv_image.specs.declared.image_error.ImageCause.{ImageCause}
use Rattle.rv_image.specs.ImageFiles.{fault_of}
use Rattle.rv_image.proofs.ImageLemmas.{images-pass, files-differ}
use Rattle.rv_asm.specs.declared.asm_error.AsmCause.{AsmCause}
use Rattle.rv_asm.specs.Faults.{asm_faults}
use Rattle.rv_asm.specs.Reading.{AsmReads}
use Rattle.rv_asm.proofs.TextsRead.{no_fault_where_reads}
use Rattle.tam.specs.ImageAnswers.{SpellsImage}

-- bytes read as one graph
pub reads-once : (bytes : List ℕ) (g h : Graph) → Reads bytes g → Reads bytes h → h ≡ g
reads-once bytes g h a b = (complete bytes h b).1 ∙ sym (complete bytes g a).1

-- a text that reads has no fault
pub no-fault : (bytes : List ℕ) (g : Graph) (n : ℕ) (cause : ReadCause) → Reads bytes g → first_fault bytes ≡ (n, cause) ∷ [] → ⊥
no-fault bytes g n cause r e = nothing (ap (take 1) (sym (complete bytes g r).0) ∙ e)
  where
    nothing : ◌≡◌ {A = List (ℕ × ReadCause)} [] ((n, cause) ∷ []) → ⊥
    nothing e = cc

-- an accepted graph isn't refused
pub not-refused : (g : Graph) (place : Place) (cause : CheckCause) → IsAccepted g → first_refused g ≡ Some (place, cause) → ⊥
not-refused g place cause a e = nothing (rw (first_refused, a.has_main, a.no_fault) at e)
  where
    nothing : ◌≡◌ {A = Option (Place × CheckCause)} None (Some (place, cause)) → ⊥
    nothing e = cc

-- bytes read as one program
pub code-once : (bytes : List ℕ) (p q : Program) → Reads0 bytes p → Reads0 bytes q → q ≡ p
code-once bytes p q a b = (texts-back bytes q b).1 ∙ sym (texts-back bytes p a).1

-- a text that reads has no fault
pub no-text-fault : (bytes : List ℕ) (p : Program) (n : ℕ) (cause : Cause0) → Reads0 bytes p → first_in_text bytes ≡ (n, cause) ∷ [] → ⊥
no-text-fault bytes p n cause r e = nothing (ap (take 1) (sym (texts-back bytes p r).0) ∙ e)
  where
    nothing : ◌≡◌ {A = List (ℕ × Cause0)} [] ((n, cause) ∷ []) → ⊥
    nothing e = cc

-- checked code isn't refused
pub no-code-fault : (p : Program) (fault : ℕ × ℕ × BadCause) → IsChecked p → first_in_code p ≡ Some fault → ⊥
no-code-fault p fault c e = nothing (ap first_among (sym c.clean) ∙ e)
  where
    nothing : ◌≡◌ {A = Option (ℕ × ℕ × BadCause)} None (Some fault) → ⊥
    nothing e = cc

-- an assembly text that reads has no fault
pub no-asm-fault : (bytes : List ℕ) (image : Image) (n : ℕ) (c : AsmCause) → AsmReads bytes image → take 1 (asm_faults bytes) ≡ (n, c) ∷ [] → ⊥
no-asm-fault bytes image n c r e = nothing (ap (take 1) (sym (no_fault_where_reads bytes image r)) ∙ e)
  where
    nothing : ◌≡◌ {A = List (ℕ × AsmCause)} [] ((n, c) ∷ []) → ⊥
    nothing e = cc

-- bytes are the file of one image
pub image-once : (bytes : List ℕ) (i j : Image) → SpellsImage bytes i → SpellsImage bytes j → j ≡ i
image-once bytes i j a b = files-differ j i b.in_range a.in_range b.words a.words (sym b.file ∙ a.file)

-- the file of an image has no fault
pub no-image-fault : (bytes : List ℕ) (i : Image) (n : ℕ) (c : ImageCause) → SpellsImage bytes i → fault_of bytes ≡ Some (n, c) → ⊥
no-image-fault bytes i n c s e = nothing (sym (ap fault_of s.file ∙ images-pass i s.in_range) ∙ e)
  where
    nothing : ◌≡◌ {A = Option (ℕ × ImageCause)} None (Some (n, c)) → ⊥
    nothing e = cc
