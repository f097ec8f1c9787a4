-- How many words of machine code the threads of a code of an accepted graph have at most.
use Rattle.std.proofs.Common.{ℕ, ◌+◌, ◌*◌, ◌<◌, ◌≤◌, List, length, arith}
use Rattle.tam_word.specs.declared.op.Op.{Op}
use Rattle.tam_word.specs.declared.op.Op.TheVariants.{Add, Sub, Mul, Div, Divu, Rem, Remu, And, Or, Xor, Sll, Srl, Sra, Slt, Sltu, Eq}
use Rattle.tam_graph.specs.Graphs.{Graph, code_of}
use Rattle.tam_graph.specs.Accepted.{IsAccepted}
use Rattle.tam_split.specs.Partitions.{Parts}
use Rattle.tl0_code.specs.declared.instr.Instr.{Instr}
use Rattle.tl0_code.specs.declared.instr.Instr.TheVariants.{Imm, Mov, Op as Operate, Fork, Switch, Falloc, Send, Ret, Ialloc, Ifetch, Istore, Skip}
use Rattle.tl0_keep.specs.Compiled.{compiled_code}
use Rattle.tl0_keep.proofs.code.ThreadKinds.{AreParts}
use Rattle.tl0_keep.proofs.code.CleanCodes.{AreFew}
use Rattle.rv_keep.specs.Image.{instr_words, code_words}
use Rattle.tam_fits.proofs.NodeWeights.{Weighing, operands_in}
use Rattle.tam_fits.proofs.CodeWeights.{threads-weight}

-- an operator has eleven words at most
op-words : (o : Op) (d a b : ℕ) → instr_words (Operate o d a b) ≤ 11
op-words Add d a b = omega arith
op-words Sub d a b = omega arith
op-words Mul d a b = omega arith
op-words Div d a b = omega arith
op-words Divu d a b = omega arith
op-words Rem d a b = omega arith
op-words Remu d a b = omega arith
op-words And d a b = omega arith
op-words Or d a b = omega arith
op-words Xor d a b = omega arith
op-words Sll d a b = omega arith
op-words Srl d a b = omega arith
op-words Sra d a b = omega arith
op-words Slt d a b = omega arith
op-words Sltu d a b = omega arith
op-words Eq d a b = omega arith

-- an instruction, and the forks of its operands
vertex-words : (i : Instr) → instr_words i + 7 * operands_in i ≤ 34
vertex-words (Imm d w) = omega arith
vertex-words (Mov d a) = omega arith
vertex-words (Operate o d a b) = let e = op-words o d a b in omega (arith, e)
vertex-words (Fork t) = omega arith
vertex-words (Switch s t u) = omega arith
vertex-words (Falloc c i) = omega arith
vertex-words (Send f p a) = omega arith
vertex-words (Ret k a) = omega arith
vertex-words (Ialloc n i) = omega arith
vertex-words (Ifetch r x i n) = omega arith
vertex-words (Istore r x a n) = omega arith
vertex-words (Skip n) = omega arith

-- words as a weight: a thread ends with one
abbrev in-words : Weighing
in-words = record {
  weight = instr_words;
  head = 1;
  fork = 7;
  gift = 13;
  vertex = 34;
  node = 13;
  forks = λ t. omega arith;
  gifts = λ d a t. omega arith;
  leaves = omega arith;
  vertices = vertex-words;
  conds = λ m n. omega arith;
  enters = omega arith;
}

-- the whole code
pub words-few : (g : Graph) (accepted : IsAccepted g) (n : ℕ) (there : n < length g.codes) (ps : List Parts) → AreParts (code_of g n) ps
    → AreFew (code_of g n) ps → code_words (compiled_code g (code_of g n, ps)) ≤ 57217
words-few g accepted n there ps parts few =
    let s : code_words (compiled_code g (code_of g n, ps)) ≤ (34 + 1 + 13 + 7) * 1024 + 1 = threads-weight in-words g accepted n there ps parts few in
    omega (arith, s)
