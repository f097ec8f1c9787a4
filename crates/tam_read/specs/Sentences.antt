-- What a line may say: a verb, what stands behind it, and the name of a node before it where it makes one.
use Rattle.std.specs.Prelude.{ℕ, ◌-◌, Bool, true, false, ◌&&◌, ◌==◌, nat_le, slice_index, take, List, [], ◌∷◌, length, map, codes, Option, Some, None, is_some}
use Rattle.tam_word.specs.Lists.{first_of, same_bytes}
use Rattle.tam_word.specs.Numbers.{word_of, place_of}
use Rattle.tam_word.specs.declared.op.Op.{Op}
use Rattle.tam_word.specs.declared.op.Op.TheVariants.{Add, Sub, Mul, Div, Divu, Rem, Remu, And, Or, Xor, Sll, Srl, Sra, Slt, Sltu, Eq}
use Rattle.tam_word.specs.OpNames.{op_name}
use Rattle.tam_text.specs.Names.{is_name}
use Rattle.tam_read.specs.declared.form.Verb.{Verb}
use Rattle.tam_read.specs.declared.form.Verb.TheVariants as verb
use Rattle.tam_read.specs.declared.form.Role.{Role}
use Rattle.tam_read.specs.declared.form.Role.TheVariants as role

-- ---- verbs

-- how a verb is written
abbrev pub verb_text : Verb → List ℕ
verb_text verb.Param = codes "param"
verb_text verb.Const = codes "const"
verb_text (verb.Operate o) = op_name o
verb_text verb.Seq = codes "seq"
verb_text verb.Call = codes "call"
verb_text verb.Arg = codes "arg"
verb_text verb.Ret = codes "ret"
verb_text verb.Give = codes "result"
verb_text verb.Alloc = codes "alloc"
verb_text verb.Fetch = codes "fetch"
verb_text verb.Store = codes "store"
verb_text verb.Cond = codes "cond"
verb_text verb.Switch = codes "switch"
verb_text verb.Merge = codes "merge"
verb_text verb.Enter = codes "in"
verb_text verb.Leave = codes "out"
verb_text verb.Code = codes "code"
verb_text verb.Else = codes "else"
verb_text verb.End = codes "end"

-- what the tokens behind it stand for, one each
abbrev pub roles_of : Verb → List Role
roles_of verb.Param = role.Place ∷ []
roles_of verb.Const = role.Word ∷ []
roles_of (verb.Operate o) = role.Value ∷ role.Value ∷ []
roles_of verb.Seq = role.Value ∷ role.Value ∷ []
roles_of verb.Call = role.Callee ∷ []
roles_of verb.Arg = role.Call ∷ role.Place ∷ role.Value ∷ []
roles_of verb.Ret = role.Call ∷ role.Place ∷ []
roles_of verb.Give = role.Place ∷ role.Value ∷ []
roles_of verb.Alloc = role.Value ∷ []
roles_of verb.Fetch = role.Value ∷ role.Value ∷ []
roles_of verb.Store = role.Value ∷ role.Value ∷ role.Value ∷ []
roles_of verb.Cond = role.Value ∷ []
roles_of verb.Switch = role.Cond ∷ role.Place ∷ role.Value ∷ []
roles_of verb.Merge = role.Cond ∷ role.Place ∷ []
roles_of verb.Enter = role.Place ∷ []
roles_of verb.Leave = role.Place ∷ role.Value ∷ []
roles_of verb.Code = role.Code ∷ []
roles_of verb.Else = []
roles_of verb.End = []

-- what the node that it makes can be named for, where a name and `=` stand before it
abbrev pub makes : Verb → Option Role
makes verb.Call = Some role.Call
makes verb.Cond = Some role.Cond
makes verb.Arg = None
makes verb.Give = None
makes verb.Store = None
makes verb.Switch = None
makes verb.Leave = None
makes verb.Code = None
makes verb.Else = None
makes verb.End = None
makes v = Some role.Value

-- how many vertices its node has
abbrev pub vertices_of : Verb → ℕ
vertices_of verb.Call = 2
vertices_of verb.Alloc = 2
vertices_of verb.Fetch = 2
vertices_of verb.Code = 0
vertices_of verb.Else = 0
vertices_of verb.End = 0
vertices_of v = 1

-- a code begins
abbrev pub is_code : Verb → Bool
is_code verb.Code = true
is_code v = false

-- a cond
abbrev pub is_cond : Verb → Bool
is_cond verb.Cond = true
is_cond v = false

-- every operator
abbrev pub all_ops : List Op
all_ops = Add ∷ Sub ∷ Mul ∷ Div ∷ Divu ∷ Rem ∷ Remu ∷ And ∷ Or ∷ Xor ∷ Sll ∷ Srl ∷ Sra ∷ Slt ∷ Sltu ∷ Eq ∷ []

-- every verb
abbrev pub all_verbs : List Verb
all_verbs =
    verb.Param ∷ verb.Const ∷ verb.Seq ∷ verb.Call ∷ verb.Arg ∷ verb.Ret ∷ verb.Give ∷ verb.Alloc ∷ verb.Fetch ∷ verb.Store ∷ verb.Cond ∷ verb.Switch
    ∷ verb.Merge ∷ verb.Enter
    ∷ verb.Leave ∷ verb.Code ∷ verb.Else ∷ verb.End ∷ map verb.Operate all_ops

-- the verb that a token writes, as a list of at most one
abbrev pub verb_called : List ℕ → List Verb
verb_called t = first_of (λ v. same_bytes t (verb_text v)) all_verbs

-- ---- sentences

-- a line under the form of its verb
pub record Sentence : Type 0 where
  pub name : List (List ℕ)
  pub verb : Verb
  pub rest : List (List ℕ)

-- the verb has such a name before it, and as many tokens behind it
abbrev pub has_form : List (List ℕ) → List (List ℕ) → Verb → Bool
has_form name rest v = elim (makes v) [ None ↦ length name == 0 | Some r ↦ length name == 1 ] && (length rest == length (roles_of v))

-- the sentence of a token in a verb's place, as a list of at most one
abbrev pub said_by : List (List ℕ) → List ℕ → List (List ℕ) → List Sentence
said_by name t rest = elim (verb_called t) [
  | [] ↦ []
  | v ∷ vs ↦ elim (has_form name rest v) [
    | true ↦ record { name = name; verb = v; rest = rest }
        ∷ []
    | false ↦ []
  ]
]

-- what is said behind a name and `=`
abbrev pub said_named : List ℕ → List (List ℕ) → List Sentence
said_named n [] = []
said_named n (t ∷ ts) = said_by (n ∷ []) t ts

-- what a line says: one with `=` as its second token makes a node of the first, and all others begin with their verb; none where it has no form
abbrev pub sentence_of : List (List ℕ) → List Sentence
sentence_of [] = []
sentence_of (t ∷ []) = said_by [] t []
sentence_of (n ∷ e ∷ ts) = elim (same_bytes e (codes "=")) [ true ↦ said_named n ts | false ↦ said_by [] n (e ∷ ts) ]

-- ---- tokens by their roles

-- the same role
abbrev pub same_role : Role → Role → Bool
same_role role.Value role.Value = true
same_role role.Call role.Call = true
same_role role.Cond role.Cond = true
same_role role.Callee role.Callee = true
same_role role.Code role.Code = true
same_role role.Place role.Place = true
same_role role.Word role.Word = true
same_role a b = false

-- each token behind the verb passes a test, given its role
abbrev pub each_token : (Role → List ℕ → Bool) → List Role → List (List ℕ) → Bool
each_token test (r ∷ rs) (t ∷ ts) = elim (test r t) [ true ↦ each_token test rs ts | false ↦ false ]
each_token test rs ts = true

-- a name is a name
abbrev pub is_name_for : Role → List ℕ → Bool
is_name_for role.Place t = true
is_name_for role.Word t = true
is_name_for r t = is_name t

-- a place is a place, and a word a word
abbrev pub is_number_for : Role → List ℕ → Bool
is_number_for role.Place t = is_some (place_of t)
is_number_for role.Word t = is_some (word_of t)
is_number_for r t = true

-- the last two bytes are `:1`, `:2` or `:3`
abbrev pub has_depth : List ℕ → Bool
has_depth t = nat_le 2 (length t) && ((slice_index t (length t - 2) == 58) &&
    (nat_le 49 (slice_index t (length t - 1)) && nat_le (slice_index t (length t - 1)) 51))

-- a name without its depth
abbrev pub without_depth : List ℕ → List ℕ
without_depth t = elim (has_depth t) [ true ↦ take (length t - 2) t | false ↦ t ]

-- the name in a token before `=`: with a depth where the node gives a value
abbrev pub name_made : Verb → List ℕ → List ℕ
name_made v t = elim (makes v) [ None ↦ t | Some r ↦ elim (same_role r role.Value) [ true ↦ without_depth t | false ↦ t ] ]

-- the names of nodes that a sentence makes, one or none
abbrev pub names_made : Sentence → List (List ℕ)
names_made s = map (name_made s.verb) s.name

-- the name of the code that a sentence begins, as a list of at most one
abbrev pub code_begun : Sentence → List (List ℕ)
code_begun s = elim (is_code s.verb) [ true ↦ take 1 s.rest | false ↦ [] ]
