-- The faults of a text. The first pass goes by lines, given the lines before; the second wants that what is named is there.
-- A text reads as a graph exactly where it has none, and is refused at the first.
use Rattle.std.specs.Prelude.{ℕ, ◌+◌, Bool, true, false, ◌&&◌, ◌||◌, not, ◌==◌, nat_lt, List, [], ◌∷◌, ◌++◌, length, map, codes, flat_map, filter, count_by}
use Rattle.std.specs.Prelude.{Some, None, take}
use Rattle.tam_word.specs.Lists.{all_of, any_of, where_so, same_list, same_bytes}
use Rattle.tam_text.specs.Lines.{lines_of, words_of, are_good_bytes, is_some_of}
use Rattle.tam_text.specs.Names.{is_name}
use Rattle.tam_read.specs.declared.cause.ReadCause.{ReadCause}
use Rattle.tam_read.specs.declared.cause.ReadCause.TheVariants.{BadByte, BadHead, BadLine, BadName, BadNumber, BadNesting, TwiceNamed, TooMany, Ended}
use Rattle.tam_read.specs.declared.cause.ReadCause.TheVariants.{UnknownName, UnknownCode}
use Rattle.tam_read.specs.declared.cause.Limit.{Limit}
use Rattle.tam_read.specs.declared.cause.Limit.TheVariants.{Codes, CodeVertices, BlockVertices, Nesting}
use Rattle.tam_read.specs.declared.form.Verb.{Verb}
use Rattle.tam_read.specs.declared.form.Verb.TheVariants as verb
use Rattle.tam_read.specs.declared.form.Role.{Role}
use Rattle.tam_read.specs.declared.form.Role.TheVariants as role
use Rattle.tam_read.specs.declared.block.Opening.{Opening}
use Rattle.tam_read.specs.declared.block.Opening.TheVariants.{ByCode, ByCond, ByElse}
use Rattle.tam_read.specs.Sentences.{Sentence, sentence_of, roles_of, vertices_of, makes, same_role, is_code, is_cond, each_token, is_name_for, is_number_for}
use Rattle.tam_read.specs.Sentences.{names_made, code_begun}

-- ---- where a sentence stands. `before` are the sentences before it, the nearest first.

-- a block that is open: what opened it, and its own sentences so far
pub record Open : Type 0 where
  pub opening : Opening
  pub own : List Sentence

-- a block that has just been opened
abbrev pub opened : Opening → Open
opened o = record { opening = o; own = [] }

-- the innermost block with a sentence more
abbrev pub with_own : Sentence → List Open → List Open
with_own s [] = []
with_own s (o ∷ os) = record { opening = o.opening; own = s ∷ o.own } ∷ os

-- without the innermost block
abbrev pub closed : List Open → List Open
closed [] = []
closed (o ∷ os) = os

-- what is open behind a sentence
abbrev pub open_behind : Sentence → Verb → List Open → List Open
open_behind s verb.Code os = opened ByCode ∷ os
open_behind s verb.Cond os = opened ByCond ∷ with_own s os
open_behind s verb.Else os = opened ByElse ∷ closed os
open_behind s verb.End os = closed os
open_behind s v os = with_own s os

-- the blocks that are open behind sentences, the innermost first
abbrev pub open_after : List Sentence → List Open
open_after [] = []
open_after (s ∷ before) = open_behind s s.verb (open_after before)

-- the sentences up to the first `code`
abbrev pub until_code : List Sentence → List Sentence
until_code [] = []
until_code (s ∷ ss) = elim (is_code s.verb) [ true ↦ [] | false ↦ s ∷ until_code ss ]

-- ---- the first pass: what it is for a sentence to have a fault, given those before

-- one of its names isn't a name
abbrev pub has_bad_name : Sentence → Bool
has_bad_name s = not (all_of is_name (names_made s) && each_token is_name_for (roles_of s.verb) s.rest)

-- a place or a word isn't one
abbrev pub has_bad_number : Sentence → Bool
has_bad_number s = not (each_token is_number_for (roles_of s.verb) s.rest)

-- a code inside one; `else` or `end` where they close nothing; a node outside a code
abbrev pub is_out_of_place : Verb → List Opening → Bool
is_out_of_place verb.Code os = is_some_of os
is_out_of_place v [] = true
is_out_of_place verb.Else (ByCond ∷ os) = false
is_out_of_place verb.Else (o ∷ os) = true
is_out_of_place verb.End (ByCond ∷ os) = true
is_out_of_place v (o ∷ os) = false

-- one of the names stands among others
abbrev pub some_shared : List (List ℕ) → List (List ℕ) → Bool
some_shared names others = any_of (λ n. any_of (same_bytes n) others) names

-- a code before has its name, or a node before in its code
abbrev pub is_named_again : List Sentence → Sentence → Bool
is_named_again before s = some_shared (code_begun s) (flat_map code_begun before) || some_shared (names_made s) (flat_map names_made (until_code before))

-- the vertices of sentences
abbrev pub vertices : List Sentence → ℕ
vertices [] = 0
vertices (s ∷ ss) = vertices_of s.verb + vertices ss

-- the own sentences of the innermost block
abbrev pub own_of : List Open → List Sentence
own_of [] = []
own_of (o ∷ os) = o.own

-- it passes the limit: more than 256 codes, 1,024 vertices of a code, 128 of a block, or conds 16 deep
abbrev pub passes : List Sentence → Sentence → Limit → Bool
passes before s Codes = is_code s.verb && nat_lt 255 (length (flat_map code_begun before))
passes before s CodeVertices = nat_lt 0 (vertices_of s.verb) && nat_lt 1024 (vertices (s ∷ until_code before))
passes before s BlockVertices = nat_lt 0 (vertices_of s.verb) && nat_lt 128 (vertices (s ∷ own_of (open_after before)))
passes before s Nesting = is_cond s.verb && nat_lt 16 (length (open_after before))

-- its faults in order
abbrev pub faults_of_sentence : List Sentence → Sentence → List ReadCause
faults_of_sentence before s =
    where_so (has_bad_name s) BadName
    ++ where_so (has_bad_number s) BadNumber
    ++ where_so (is_out_of_place s.verb (map (λ o. o.opening) (open_after before))) BadNesting
    ++ where_so (is_named_again before s) TwiceNamed
    ++ map TooMany (filter (passes before s) (Codes ∷ CodeVertices ∷ BlockVertices ∷ Nesting ∷ []))

-- the first line with tokens
abbrev pub is_head : List (List ℕ) → Bool
is_head line = same_list same_bytes line (codes "dg" ∷ codes "1" ∷ [])

-- the sentences of lines
abbrev pub said : List (List (List ℕ)) → List Sentence
said lines = flat_map sentence_of lines

-- the faults of a line with these words, in order, where such lines with words stand before it, the nearest first
abbrev pub faults_of_words : List (List (List ℕ)) → List (List ℕ) → List ReadCause
faults_of_words before [] = []
faults_of_words [] (w ∷ ws) = where_so (not (is_head (w ∷ ws))) BadHead
faults_of_words (b ∷ before) (w ∷ ws) = elim (sentence_of (w ∷ ws)) [ [] ↦ BadLine ∷ [] | s ∷ ss ↦ faults_of_sentence (said (b ∷ before)) s ]

-- the faults of a line, its bytes first
abbrev pub faults_of_line : List (List (List ℕ)) → List ℕ → List ReadCause
faults_of_line before line = where_so (not (are_good_bytes line)) BadByte ++ faults_of_words before (words_of line)

-- the line before the next, where it has words
abbrev pub with_line : List ℕ → List (List (List ℕ)) → List (List (List ℕ))
with_line line before = filter is_some_of (words_of line ∷ []) ++ before

-- the faults at the end of a text: no head, or an open code
abbrev pub faults_at_end : List (List (List ℕ)) → List ReadCause
faults_at_end [] = BadHead ∷ []
faults_at_end (b ∷ before) = where_so (is_some_of (open_after (said (b ∷ before)))) Ended

-- the faults of the lines from number n on, and behind them those of the end, which stands at line `last`
abbrev pub first_pass : ℕ → List (List (List ℕ)) → ℕ → List (List ℕ) → List (ℕ × ReadCause)
first_pass last before n [] = map (λ c. (last, c)) (faults_at_end before)
first_pass last before n (line ∷ lines) = map (λ c. (n, c)) (faults_of_line before line) ++ first_pass last (with_line line before) (n + 1) lines

-- ---- the second pass

-- a sentence makes a node of this name that can be named so
abbrev pub makes_named : Role → List ℕ → Sentence → Bool
makes_named r name s = elim (makes s.verb) [ None ↦ false | Some q ↦ same_role r q && any_of (same_bytes name) (names_made s) ]

-- what a name must name: a node of the code, or a code
abbrev pub is_known_node : List Sentence → Role → List ℕ → Bool
is_known_node code role.Value t = any_of (makes_named role.Value t) code
is_known_node code role.Call t = any_of (makes_named role.Call t) code
is_known_node code role.Cond t = any_of (makes_named role.Cond t) code
is_known_node code r t = true

-- and a code
abbrev pub is_known_code : List Sentence → Role → List ℕ → Bool
is_known_code all role.Callee t = any_of (same_bytes t) (flat_map code_begun all)
is_known_code all r t = true

-- the faults of a sentence among those of its code and of the text
abbrev pub faults_of_names : List Sentence → List Sentence → Sentence → List ReadCause
faults_of_names all code s = where_so (not (each_token (is_known_node code) (roles_of s.verb) s.rest)) UnknownName ++ where_so
    (not (each_token (is_known_code all) (roles_of s.verb) s.rest)) UnknownCode

-- the sentences of the lines from number n on, each with its line
abbrev pub said_from : ℕ → List (List ℕ) → List (ℕ × Sentence)
said_from n [] = []
said_from n (line ∷ lines) = map (λ s. (n, s)) (sentence_of (words_of line)) ++ said_from (n + 1) lines

-- without their lines
abbrev pub sayings : List (ℕ × Sentence) → List Sentence
sayings ss = map (λ p. p.1) ss

-- the faults of sentences, where others stand before them, the nearest first, and `all` in the text
abbrev pub second_pass : List Sentence → List Sentence → List (ℕ × Sentence) → List (ℕ × ReadCause)
second_pass all before [] = []
second_pass all before (p ∷ ps) = map (λ c. (p.0, c)) (faults_of_names all (until_code before ++ (p.1 ∷ until_code (sayings ps))) p.1) ++ second_pass all
    (p.1 ∷ before) ps

-- ---- the whole

-- the line behind the last LF
abbrev pub last_line : List ℕ → ℕ
last_line bytes = count_by (λ b. b == 10) bytes + 1

-- the faults of the second pass over a text
abbrev pub faults_of_second : List (ℕ × Sentence) → List (ℕ × ReadCause)
faults_of_second ss = second_pass (sayings ss) [] ss

-- the faults of a text: those of the second pass where the first has none
abbrev pub faults : List ℕ → List (ℕ × ReadCause)
faults bytes = elim (first_pass (last_line bytes) [] 1 (lines_of bytes)) [ [] ↦ faults_of_second (said_from 1 (lines_of bytes)) | f ∷ fs ↦ f ∷ fs ]

-- the first fault of a text, as a list of at most one
abbrev pub first_fault : List ℕ → List (ℕ × ReadCause)
first_fault bytes = take 1 (faults bytes)
