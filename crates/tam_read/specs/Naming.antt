-- What a token names: a node, a code, a place or a word, as its role has it; and the faults of a line whose names name nothing.
use Rattle.std.specs.Prelude.{ℕ, Bool, true, false, not, List, [], ◌∷◌, ◌++◌, map, Option, Some, None}
use Rattle.tam_word.specs.Lists.{where_so}
use Rattle.tam_word.specs.Numbers.{word_of, place_of}
use Rattle.tam_read.specs.declared.cause.ReadCause.{ReadCause}
use Rattle.tam_read.specs.declared.cause.ReadCause.TheVariants.{UnknownName, UnknownCode}
use Rattle.tam_read.specs.declared.form.Role.{Role}
use Rattle.tam_read.specs.declared.form.Role.TheVariants as role
use Rattle.tam_read.specs.declared.table.Made.{Made}
use Rattle.tam_read.specs.Sentences.{Sentence, roles_of, same_role, each_token}
use Rattle.tam_read.specs.Tables.{Entries, found}

-- the names of a code's nodes, and of the codes
pub record Known : Type 0 where
  pub nodes : Entries
  pub codes : Entries

-- what a name names, named in this role
abbrev pub is_made : Role → Option Made → Bool
is_made r None = false
is_made r (Some m) = same_role r m.role

-- a node of the code has the name, where the role asks for one
abbrev pub is_node_found : Entries → Role → List ℕ → Bool
is_node_found nodes role.Value t = is_made role.Value (found t nodes)
is_node_found nodes role.Call t = is_made role.Call (found t nodes)
is_node_found nodes role.Cond t = is_made role.Cond (found t nodes)
is_node_found nodes r t = true

-- a code has the name, where the role asks for one
abbrev pub is_code_found : Entries → Role → List ℕ → Bool
is_code_found codes role.Callee t = is_made role.Callee (found t codes)
is_code_found codes r t = true

-- the faults of a line
abbrev pub faults_known : Known → Sentence → List ReadCause
faults_known k s =
    where_so (not (each_token (is_node_found k.nodes) (roles_of s.verb) s.rest)) UnknownName
    ++ where_so (not (each_token (is_code_found k.codes) (roles_of s.verb) s.rest)) UnknownCode

-- the faults of a code's lines
abbrev pub faults_within : Known → List (ℕ × Sentence) → List (ℕ × ReadCause)
faults_within k [] = []
faults_within k (p ∷ body) = map (λ c. (p.0, c)) (faults_known k p.1) ++ faults_within k body

-- ---- numbers

-- the number of what a name names, or 0
abbrev pub or_number : Option Made → ℕ
or_number None = 0
or_number (Some m) = m.number

-- a number, or 0
abbrev pub or_zero : Option ℕ → ℕ
or_zero None = 0
or_zero (Some n) = n

-- the number that a token stands for
abbrev pub number_for : Known → Role → List ℕ → ℕ
number_for k role.Value t = or_number (found t k.nodes)
number_for k role.Call t = or_number (found t k.nodes)
number_for k role.Cond t = or_number (found t k.nodes)
number_for k role.Callee t = or_number (found t k.codes)
number_for k role.Code t = 0
number_for k role.Place t = or_zero (place_of t)
number_for k role.Word t = or_zero (word_of t)

-- the numbers of the first three tokens behind a verb, or 0
abbrev pub first_number : Known → List Role → List (List ℕ) → ℕ
first_number k [] ts = 0
first_number k (r ∷ rs) [] = 0
first_number k (r ∷ rs) (t ∷ ts) = number_for k r t

-- that of the second
abbrev pub second_number : Known → List Role → List (List ℕ) → ℕ
second_number k [] ts = 0
second_number k (r ∷ rs) [] = 0
second_number k (r ∷ rs) (t ∷ ts) = first_number k rs ts

-- and of the third
abbrev pub third_number : Known → List Role → List (List ℕ) → ℕ
third_number k [] ts = 0
third_number k (r ∷ rs) [] = 0
third_number k (r ∷ rs) (t ∷ ts) = second_number k rs ts
