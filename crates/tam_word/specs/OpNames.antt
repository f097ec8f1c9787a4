-- The names of the operators, as they stand in every text.
-- The rule in words: docs/FORMATS.md, "Operators".
use Rattle.std.specs.Prelude.{ℕ, List, codes}
use Rattle.tam_word.specs.declared.op.Op.{Op}
use Rattle.tam_word.specs.declared.op.Op.TheVariants.{Add, Sub, Mul, Div, Divu, Rem, Remu, And, Or, Xor, Sll, Srl, Sra, Slt, Sltu, Eq}

-- the name of an operator
abbrev pub op_name : Op → List ℕ
op_name Add = codes "add"
op_name Sub = codes "sub"
op_name Mul = codes "mul"
op_name Div = codes "div"
op_name Divu = codes "divu"
op_name Rem = codes "rem"
op_name Remu = codes "remu"
op_name And = codes "and"
op_name Or = codes "or"
op_name Xor = codes "xor"
op_name Sll = codes "sll"
op_name Srl = codes "srl"
op_name Sra = codes "sra"
op_name Slt = codes "slt"
op_name Sltu = codes "sltu"
op_name Eq = codes "eq"
