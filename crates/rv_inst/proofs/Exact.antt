-- What the fields of a word say is the instruction with that word, and where they say none there is none.
use Rattle.std.proofs.Common.{◌≡◌, ℕ, ◌==◌, ◌^◌, ◌<◌, Option, Some, None, Bool, true, false, refl, sym, ap, ◌∙◌, subst, arith}
use Rattle.std.specs.Prelude.{option_to_list}
use Rattle.std.specs.Option.{option_map}
use Rattle.tam_word.proofs.Tests.{number-eq}
use Rattle.rv_inst.specs.declared.i_name.IName.{IName}
use Rattle.rv_inst.specs.declared.opcode.Opcode.{Opcode}
use Rattle.rv_inst.specs.declared.opcode.Opcode.TheVariants as opcode
use Rattle.rv_inst.specs.Rows.{jalr_funct, fence_funct, ecall_word, ebreak_word}
use Rattle.rv_inst.specs.declared.inst.Inst.{Inst}
use Rattle.rv_inst.specs.declared.inst.Inst.TheVariants.{R, I, Shift, Load, Store, Branch, Lui, Auipc, Jal, Jalr, Fence, Ecall, Ebreak}
use Rattle.rv_inst.specs.Fields.{part, rd_of, rs1_of, rs2_of, i_imm, s_imm, b_off, j_off}
use Rattle.rv_inst.specs.Rows.{code}
use Rattle.rv_inst.specs.Lookup.{i_name_of, opcode_of, r_name_of, shift_name_of, load_name_of, store_name_of, branch_name_of}
use Rattle.rv_inst.specs.Instructions.{encoded, decoded}
use Rattle.rv_inst.specs.Decoding.{with_immediate, of_system, said, said_if, by_fields}
use Rattle.rv_inst.specs.Ranges.{IsInRange, IsDecoded}
use Rattle.rv_inst.proofs.Signed.{part-below, i_imm-signed, s_imm-signed, b_off-signed, j_off-signed}
use Rattle.rv_inst.proofs.Found.{funct-found, shift_funct-found, imm_funct-found, load_funct-found, store_funct-found, branch_funct-found, code-found}
use Rattle.rv_inst.proofs.Whole.{r-whole, i-bits, i-whole, s-whole, b-whole, u-whole, j-whole}
use Rattle.rv_inst.proofs.Reading.{HasFields, encoded-fields, fields-read}
use Rattle.rv_inst.proofs.Candidates.{decodes-words, none-made-up}

-- the instruction is in range and has this word
abbrev Has : ℕ → Inst → Type 0
Has w i = IsInRange i × (encoded i ≡ w)

-- what is said has the word where it is some instruction's
abbrev Holds : ℕ → Option Inst → Type 0
Holds w m = (i : Inst) → m ≡ Some i → Has w i

-- one instruction
one : (w : ℕ) (i : Inst) → Has w i → Holds w (Some i)
one w i h j e = let p : i ≡ j = cc in subst (Has w) p h

-- none
no-one : (w : ℕ) → Holds w None
no-one w j e = absurd cc

-- one for a name that is found
named : {N : Type 0} (w : ℕ) (f : N → Inst) (m : Option N) → ((n : N) → m ≡ Some n → Has w (f n)) → Holds w (option_map f m)
named w f (Some n) k = one w (f n) (k n refl)
named w f None k = no-one w

-- one where a number is this one
where-so : (w x y : ℕ) (i : Inst) → (x ≡ y → Has w i) → Holds w (elim (x == y) [ true ↦ Some i | false ↦ None ])
where-so w x y i k = go (x == y) refl
  where
    go : (t : Bool) → (x == y) ≡ t → Holds w (elim t [ true ↦ Some i | false ↦ None ])
    go true p = one w i (k (number-eq x y p))
    go false p = no-one w

-- ---- opcode by opcode

module _ (w : ℕ) (h : w < 2 ^ 32) where
  -- a register and an immediate
  immediate-holds : (o : code opcode.OpImm ≡ part w 0 7) (m : Option IName) → i_name_of (part w 12 3) ≡ m → Holds w (with_immediate w m)
  immediate-holds o (Some n) e =
      one w (I n (rd_of w) (rs1_of w) (i_imm w))
      ((part-below w 7 5, part-below w 15 5, i_imm-signed w), i-whole w _ _ h (imm_funct-found (part w 12 3) n e) o)
  immediate-holds o None e =
      named w (λ n. Shift n (rd_of w) (rs1_of w) (rs2_of w)) (shift_name_of (part w 25 7) (part w 12 3))
      (λ n p. let q = shift_funct-found (part w 25 7) (part w 12 3) n p in
      ((part-below w 7 5, part-below w 15 5, part-below w 20 5), r-whole w _ _ _ h q.0 q.1 o))

  -- calls
  system-holds : Holds w (of_system w)
  system-holds = go (w == ecall_word) refl
    where
      second : (t : Bool) → (w == ebreak_word) ≡ t → Holds w (elim t [ true ↦ Some Ebreak | false ↦ None ])
      second true p = one w Ebreak (tt, sym (number-eq w ebreak_word p))
      second false p = no-one w

      go : (t : Bool) → (w == ecall_word) ≡ t → Holds w (elim t [ true ↦ Some Ecall | false ↦ elim (w == ebreak_word) [ true ↦ Some Ebreak | false ↦ None ] ])
      go true p = one w Ecall (tt, sym (number-eq w ecall_word p))
      go false p = second (w == ebreak_word) refl

  -- any
  said-holds : (o : Opcode) → code o ≡ part w 0 7 → Holds w (said w o)
  said-holds opcode.Load o =
      named w (λ n. Load n (rd_of w) (rs1_of w) (i_imm w)) (load_name_of (part w 12 3))
      (λ n p. ((part-below w 7 5, part-below w 15 5, i_imm-signed w), i-whole w _ _ h (load_funct-found (part w 12 3) n p) o))
  said-holds opcode.MiscMem o =
      where-so w (part w 12 3) fence_funct (Fence (rd_of w) (rs1_of w) (part w 20 12))
      (λ e. ((part-below w 7 5, part-below w 15 5, part-below w 20 12), i-bits w (part w 20 12) _ _ h (omega arith) (sym e) o))
  said-holds opcode.OpImm o = immediate-holds o (i_name_of (part w 12 3)) refl
  said-holds opcode.Auipc o = one w (Auipc (rd_of w) (part w 12 20)) ((part-below w 7 5, part-below w 12 20), u-whole w _ h o)
  said-holds opcode.Store o =
      named w (λ n. Store n (rs1_of w) (rs2_of w) (s_imm w)) (store_name_of (part w 12 3))
      (λ n p. ((part-below w 15 5, part-below w 20 5, s_imm-signed w), s-whole w _ _ h (store_funct-found (part w 12 3) n p) o))
  said-holds opcode.Op o =
      named w (λ n. R n (rd_of w) (rs1_of w) (rs2_of w)) (r_name_of (part w 25 7) (part w 12 3))
      (λ n p. let q = funct-found (part w 25 7) (part w 12 3) n p in
      ((part-below w 7 5, part-below w 15 5, part-below w 20 5), r-whole w _ _ _ h q.0 q.1 o))
  said-holds opcode.Lui o = one w (Lui (rd_of w) (part w 12 20)) ((part-below w 7 5, part-below w 12 20), u-whole w _ h o)
  said-holds opcode.Branch o =
      named w (λ n. Branch n (rs1_of w) (rs2_of w) (b_off w)) (branch_name_of (part w 12 3))
      (λ n p. let s = b_off-signed w in
      ((part-below w 15 5, part-below w 20 5, s.0, s.1), b-whole w _ _ h (branch_funct-found (part w 12 3) n p) o))
  said-holds opcode.Jalr o =
      where-so w (part w 12 3) jalr_funct (Jalr (rd_of w) (rs1_of w) (i_imm w))
      (λ e. ((part-below w 7 5, part-below w 15 5, i_imm-signed w), i-whole w _ _ h (sym e) o))
  said-holds opcode.Jal o =
      let s = j_off-signed w in one w (Jal (rd_of w) (j_off w)) ((part-below w 7 5, s.0, s.1), j-whole w _ h o)
  said-holds opcode.System o = system-holds

  -- what the fields say
  fields-hold : Holds w (by_fields w)
  fields-hold = go (opcode_of (part w 0 7)) refl
    where
      go : (m : Option Opcode) → opcode_of (part w 0 7) ≡ m → Holds w (said_if w m)
      go (Some o) p = said-holds o (code-found (part w 0 7) o p)
      go None p = no-one w

-- what the fields of a word say is exact
pub fields-exact : (w : ℕ) → w < 2 ^ 32 → IsDecoded w (by_fields w)
fields-exact w h = go (by_fields w) refl
  where
    go : (m : Option Inst) → by_fields w ≡ m → IsDecoded w m
    go (Some i) p = fields-hold w h i p
    go None p = λ i r e. let q : by_fields w ≡ Some i = fields-read w i (subst (λ (x : ℕ). HasFields x i) e (encoded-fields i r)) in absurd cc

-- what is exact is what decoding gives
pub exact-decoded : (w : ℕ) (m : Option Inst) → IsDecoded w m → option_to_list m ≡ decoded w
exact-decoded w (Some i) h = sym (ap decoded (sym h.1) ∙ decodes-words i h.0)
exact-decoded w None h = sym (none-made-up w h)
