-- A line spells the line of the node that is made of it.
use Rattle.std.proofs.Common.{◌≡◌, ℕ, suc, ◌+◌, ◌^◌, ◌<◌, ◌≤◌, Bool, true, false, ◌&&◌, ◌==◌, List, [], ◌∷◌, ◌++◌, length, map, Option, Some, None, refl, sym}
use Rattle.std.proofs.Common.{ap, ap₂, subst, ◌∙◌, true≢false, arith}
use Rattle.std.specs.Prelude.{codes, decimal, slice_get, is_some}
use Rattle.tam_word.specs.Lists.{all_of, same_bytes}
use Rattle.tam_word.specs.Numbers.{word_of, place_of, some_if}
use Rattle.tam_word.proofs.Tests.{self-eq, number-eq, true-both, both-true}
use Rattle.tam_word.proofs.Spelled.{decimal_up_to-is}
use Rattle.tam_graph.specs.declared.kind.Kind.{Kind}
use Rattle.tam_graph.specs.declared.kind.Kind.TheVariants as kind
use Rattle.tam_graph.specs.declared.node.Node.{Node}
use Rattle.tam_text.specs.Names.{is_name}
use Rattle.tam_graph.specs.Graphs.{Code, Graph, code_of, kind_at, depth_at, or_kind, or_depth}
use Rattle.tam_graph.specs.Texts.{Token, Bytes, Number, Line, node_name, or_name, or_bytes, tokens, is_named, suffix, node_line, spells}
use Rattle.tam_graph.specs.Reading.{is_token, same_line}
use Rattle.tam_text.proofs.SameBytes.{same_self}
use Rattle.tam_read.specs.declared.form.Verb.{Verb}
use Rattle.tam_read.specs.declared.form.Verb.TheVariants as verb
use Rattle.tam_read.specs.declared.form.Role.{Role}
use Rattle.tam_read.specs.declared.form.Role.TheVariants as role
use Rattle.tam_read.specs.declared.table.Made.{Made}
use Rattle.tam_read.specs.Sentences.{Sentence, verb_text, makes, roles_of, same_role, has_form, each_token, is_number_for, names_made, name_made}
use Rattle.tam_read.specs.Tables.{found, is_node}
use Rattle.tam_read.specs.Naming.{Known, is_made, is_node_found, is_code_found, number_for, first_number, second_number, third_number, or_number, or_zero}
use Rattle.tam_read.specs.Building.{kind_made, kind_said, depth_made, name_given, else_kind}
use Rattle.tam_read.proofs.Worded.{with_name, words_said, token-again}

-- ---- tokens by their roles

-- the token of a number in a role
abbrev pub role_token : Graph → Code → Role → ℕ → Token
role_token g c role.Value a = Bytes (node_name c a)
role_token g c role.Call a = Bytes (node_name c a)
role_token g c role.Cond a = Bytes (node_name c a)
role_token g c role.Callee d = Bytes (code_of g d).name
role_token g c role.Code d = Bytes []
role_token g c role.Place k = Bytes (decimal k)
role_token g c role.Word w = Number w

-- the tokens of three numbers in their roles
abbrev pub three_tokens : Graph → Code → List Role → ℕ → ℕ → ℕ → Line
three_tokens g c [] x y z = []
three_tokens g c (r ∷ []) x y z = role_token g c r x ∷ []
three_tokens g c (r ∷ s ∷ []) x y z = role_token g c r x ∷ role_token g c s y ∷ []
three_tokens g c (r ∷ s ∷ t ∷ rs) x y z = role_token g c r x ∷ role_token g c s y ∷ role_token g c t z ∷ []

-- the tokens of the line of a node are its verb and the tokens of its numbers
pub tokens-made : (g : Graph) (c : Code) (v : Verb) (x y z next other : ℕ) → is_node v ≡ true
    → tokens g c (else_kind other (kind_made v x y z next)) ≡ Bytes (verb_text v) ∷ three_tokens g c (roles_of v) x y z
tokens-made g c verb.Code x y z next other e = absurd (true≢false (sym e))
tokens-made g c verb.Else x y z next other e = absurd (true≢false (sym e))
tokens-made g c verb.End x y z next other e = absurd (true≢false (sym e))
tokens-made g c v x y z next other e = refl

-- its line begins with a name where its verb makes a node that can be named
pub named-made : (v : Verb) (x y z next other : ℕ) → is_node v ≡ true → is_named (else_kind other (kind_made v x y z next)) ≡ is_some (makes v)
named-made verb.Code x y z next other e = absurd (true≢false (sym e))
named-made verb.Else x y z next other e = absurd (true≢false (sym e))
named-made verb.End x y z next other e = absurd (true≢false (sym e))
named-made v x y z next other e = refl

-- what names name is there, under these names
pub record AreFound (g : Graph) (c : Code) (q : Known) : Type 0 where
  pub nodes : (t : List ℕ) (m : Made) → found t q.nodes ≡ Some m → node_name c m.number ≡ t
  pub codes : (t : List ℕ) (m : Made) → found t q.codes ≡ Some m → (code_of g m.number).name ≡ t

-- what is made is there
pub made-some : (r : Role) (o : Option Made) → is_made r o ≡ true → (m : Made) × (o ≡ Some m) × (same_role r m.role ≡ true)
made-some r None e = absurd (true≢false (sym e))
made-some r (Some m) e = (m, refl, e)

-- what is some is there
pub some-there : {X : Type 0} (o : Option X) → is_some o ≡ true → (x : X) × (o ≡ Some x)
some-there None e = absurd (true≢false (sym e))
some-there (Some x) e = (x, refl)

-- no role of a node's line is that of a code that begins
abbrev pub is_no_code : Role → Bool
is_no_code role.Code = false
is_no_code r = true

-- so of each verb of a node
pub roles-no-code : (v : Verb) → is_node v ≡ true → all_of is_no_code (roles_of v) ≡ true
roles-no-code verb.Code e = absurd (true≢false (sym e))
roles-no-code v e = refl

module _ (g : Graph) (c : Code) (q : Known) (are : AreFound g c q) where
  by-node : (t : List ℕ) (r : Role) → is_made r (found t q.nodes) ≡ true → same_bytes t (node_name c (or_number (found t q.nodes))) ≡ true
  by-node t r e = let m = made-some r (found t q.nodes) e in rw m.1 (rw (are.nodes t m.0 m.1) (same_self t))

  -- a token spells that of its number
  token-spelled : (r : Role) (t : List ℕ) → is_no_code r ≡ true → is_number_for r t ≡ true → is_node_found q.nodes r t ≡ true → is_code_found q.codes r t ≡ true
      → is_token t (role_token g c r (number_for q r t)) ≡ true
  token-spelled role.Value t n a b d = by-node t role.Value b
  token-spelled role.Call t n a b d = by-node t role.Call b
  token-spelled role.Cond t n a b d = by-node t role.Cond b
  token-spelled role.Callee t n a b d = let m = made-some role.Callee (found t q.codes) d in rw m.1 (rw (are.codes t m.0 m.1) (same_self t))
  token-spelled role.Code t n a b d = absurd (true≢false (sym n))
  token-spelled role.Place t n a b d =
      let k = some-there (place_of t) a in
      let is = decimal_up_to-is 63 t k.0 (omega arith) k.1 in
      ap (λ o. same_bytes t (decimal (or_zero o))) k.1 ∙ ap (same_bytes t) (sym is.0) ∙ same_self t
  token-spelled role.Word t n a b d =
      let w = some-there (word_of t) a in
      ap (λ o. spells t (or_zero o)) w.1 ∙ rw (spells, w.1) (self-eq w.0)

  -- the tokens of a line, each under its role
  abbrev pub role_tokens : List Role → List (List ℕ) → Line
  role_tokens [] ts = []
  role_tokens (r ∷ rs) [] = []
  role_tokens (r ∷ rs) (t ∷ ts) = role_token g c r (number_for q r t) ∷ role_tokens rs ts

  pub first-of-each : (f : Role → List ℕ → Bool) (r : Role) (rs : List Role) (t : List ℕ) (ts : List (List ℕ)) → each_token f (r ∷ rs) (t ∷ ts) ≡ true
      → (f r t ≡ true) × (each_token f rs ts ≡ true)
  first-of-each f r rs t ts e = go (f r t) refl
    where
      go : (b : Bool) → f r t ≡ b → (f r t ≡ true) × (each_token f rs ts ≡ true)
      go true p = (p, rw (each_token, p) at e)
      go false p = absurd (true≢false (sym (rw (each_token, p) at e)))

  pub first-of-all : (f : Role → Bool) (r : Role) (rs : List Role) → all_of f (r ∷ rs) ≡ true → (f r ≡ true) × (all_of f rs ≡ true)
  first-of-all f r rs e = go (f r) refl
    where
      go : (b : Bool) → f r ≡ b → (f r ≡ true) × (all_of f rs ≡ true)
      go true p = (p, rw (all_of, p) at e)
      go false p = absurd (true≢false (sym (rw (all_of, p) at e)))

  pub rest-spelled : (rs : List Role) (ts : List (List ℕ)) → length ts ≡ length rs → all_of is_no_code rs ≡ true → each_token is_number_for rs ts ≡ true
      → each_token (is_node_found q.nodes) rs ts ≡ true
      → each_token (is_code_found q.codes) rs ts ≡ true → same_line ts (role_tokens rs ts) ≡ true
  rest-spelled [] [] l n a b d = refl
  rest-spelled [] (t ∷ ts) l n a b d = absurd (omega arith)
  rest-spelled (r ∷ rs) [] l n a b d = absurd (omega arith)
  rest-spelled (r ∷ rs) (t ∷ ts) l n a b d =
      let n0 = first-of-all is_no_code r rs n in
      let a0 = first-of-each is_number_for r rs t ts a in
      let b0 = first-of-each (is_node_found q.nodes) r rs t ts b in
      let d0 = first-of-each (is_code_found q.codes) r rs t ts d in
      true-both _ _ (token-spelled r t n0.0 a0.0 b0.0 d0.0) (rest-spelled rs ts (omega arith) n0.1 a0.1 b0.1 d0.1)

  -- up to three tokens have three numbers
  pub three-numbers : (rs : List Role) (ts : List (List ℕ)) → length ts ≡ length rs → length rs ≤ 3
      → three_tokens g c rs (first_number q rs ts) (second_number q rs ts) (third_number q rs ts) ≡ role_tokens rs ts
  three-numbers [] ts l few = refl
  three-numbers (r ∷ rs) [] l few = absurd (omega arith)
  three-numbers (r ∷ []) (t ∷ []) l few = refl
  three-numbers (r ∷ []) (t ∷ u ∷ ts) l few = absurd (omega arith)
  three-numbers (r ∷ s ∷ rs) (t ∷ []) l few = absurd (omega arith)
  three-numbers (r ∷ s ∷ []) (t ∷ u ∷ []) l few = refl
  three-numbers (r ∷ s ∷ []) (t ∷ u ∷ v ∷ ts) l few = absurd (omega arith)
  three-numbers (r ∷ s ∷ p ∷ rs) (t ∷ u ∷ []) l few = absurd (omega arith)
  three-numbers (r ∷ s ∷ p ∷ []) (t ∷ u ∷ v ∷ []) l few = refl
  three-numbers (r ∷ s ∷ p ∷ []) (t ∷ u ∷ v ∷ w ∷ ts) l few = absurd (omega arith)
  three-numbers (r ∷ s ∷ p ∷ o ∷ rs) (t ∷ u ∷ v ∷ ts) l few = absurd (omega arith)

-- a verb has at most three tokens behind it
pub few-roles : (v : Verb) → length (roles_of v) ≤ 3
few-roles verb.Param = omega arith
few-roles verb.Const = omega arith
few-roles (verb.Operate o) = omega arith
few-roles verb.Seq = omega arith
few-roles verb.Call = omega arith
few-roles verb.Arg = omega arith
few-roles verb.Ret = omega arith
few-roles verb.Give = omega arith
few-roles verb.Alloc = omega arith
few-roles verb.Fetch = omega arith
few-roles verb.Store = omega arith
few-roles verb.Cond = omega arith
few-roles verb.Switch = omega arith
few-roles verb.Merge = omega arith
few-roles verb.Enter = omega arith
few-roles verb.Leave = omega arith
few-roles verb.Code = omega arith
few-roles verb.Else = omega arith
few-roles verb.End = omega arith

-- ---- a line and its node

-- the node is made of the line
pub record IsMade (q : Known) (s : Sentence) (n : Node) : Type 0 where
  pub next : ℕ
  pub other : ℕ
  pub name : n.name ≡ name_given (names_made s)
  pub depth : n.depth ≡ depth_made s.verb s.name
  pub kind : n.kind ≡ else_kind other (kind_said q next s)

-- a line without a fault
pub record IsGood (q : Known) (s : Sentence) : Type 0 where
  pub node : is_node s.verb ≡ true
  pub form : has_form s.name s.rest s.verb ≡ true
  pub names : all_of is_name (names_made s) ≡ true
  pub numbers : each_token is_number_for (roles_of s.verb) s.rest ≡ true
  pub nodes : each_token (is_node_found q.nodes) (roles_of s.verb) s.rest ≡ true
  pub codes : each_token (is_code_found q.codes) (roles_of s.verb) s.rest ≡ true

-- a node's line by its parts
abbrev pub line_by : Graph → Code → List ℕ → ℕ → Kind → Line
line_by g c name depth k = elim (is_named k) [ true ↦ Bytes (name ++ suffix depth) ∷ Bytes (codes "=") ∷ tokens g c k | false ↦ tokens g c k ]

-- the line of the node at a place
pub node-line-at : (g : Graph) (c : Code) (x : ℕ) (n : Node) → slice_get c.nodes x ≡ Some n → node_line g c x ≡ line_by g c (or_bytes n.name) n.depth n.kind
node-line-at g c x n e = ap (λ o. line_by g c (or_name o) (or_depth o) (or_kind o)) e

-- where both hold, by parts
pub form-parts : (o : Option Role) (name rest : List (List ℕ)) (roles : List Role)
    → ((elim o [ None ↦ length name == 0 | Some r ↦ length name == 1 ]) && (length rest == length roles)) ≡ true
    → ((elim o [ None ↦ length name == 0 | Some r ↦ length name == 1 ]) ≡ true) × (length rest ≡ length roles)
form-parts o name rest roles e = let p = both-true (elim o [ None ↦ length name == 0 | Some r ↦ length name == 1 ]) (length rest == length roles) e in
    (p.0, number-eq (length rest) (length roles) p.1)

-- a list without length is empty
pub no-element : (xs : List (List ℕ)) → length xs ≡ 0 → xs ≡ []
no-element [] e = refl
no-element (x ∷ xs) e = absurd (omega arith)

-- a list of length 1 has one
pub one-element : (xs : List (List ℕ)) → length xs ≡ 1 → (x : List ℕ) × (xs ≡ x ∷ [])
one-element [] e = absurd (omega arith)
one-element (x ∷ []) e = (x, refl)
one-element (x ∷ y ∷ xs) e = absurd (omega arith)

module _ (g : Graph) (c : Code) (q : Known) (are : AreFound g c q) (s : Sentence) (good : IsGood q s) (n : Node) (made : IsMade q s n) where
  kind-is : n.kind ≡ else_kind made.other (kind_made s.verb (first_number q (roles_of s.verb) s.rest) (second_number q (roles_of s.verb) s.rest)
      (third_number q (roles_of s.verb) s.rest) made.next)
  kind-is = made.kind

  parts : ((elim (makes s.verb) [ None ↦ length s.name == 0 | Some r ↦ length s.name == 1 ]) ≡ true) × (length s.rest ≡ length (roles_of s.verb))
  parts = form-parts (makes s.verb) s.name s.rest (roles_of s.verb) good.form

  tokens-are : tokens g c n.kind ≡ Bytes (verb_text s.verb) ∷ role_tokens g c q are (roles_of s.verb) s.rest
  tokens-are =
      ap (tokens g c) kind-is ∙ tokens-made g c s.verb (first_number q (roles_of s.verb) s.rest) (second_number q (roles_of s.verb) s.rest)
      (third_number q (roles_of s.verb) s.rest) made.next made.other good.node
      ∙ ap (λ ts. Bytes (verb_text s.verb) ∷ ts) (three-numbers g c q are (roles_of s.verb) s.rest parts.1 (few-roles s.verb))

  behind-name : same_line (verb_text s.verb ∷ s.rest) (tokens g c n.kind) ≡ true
  behind-name =
      ap (same_line (verb_text s.verb ∷ s.rest)) tokens-are
      ∙ true-both _ _ (same_self (verb_text s.verb)) (rest-spelled g c q are (roles_of s.verb) s.rest parts.1
      (roles-no-code s.verb good.node) good.numbers good.nodes good.codes)

  is-named : is_named n.kind ≡ is_some (makes s.verb)
  is-named = ap is_named kind-is ∙ named-made s.verb (first_number q (roles_of s.verb) s.rest) (second_number q (roles_of s.verb) s.rest)
      (third_number q (roles_of s.verb) s.rest) made.next made.other good.node

  with-none : makes s.verb ≡ None → same_line (words_said s) (line_by g c (or_bytes n.name) n.depth n.kind) ≡ true
  with-none e =
      let none : s.name ≡ [] = no-element s.name (number-eq (length s.name) 0 (rw e at parts.0)) in
      let plain : is_named n.kind ≡ false = is-named ∙ ap is_some e in
      ap (λ ns. same_line (with_name ns (verb_text s.verb ∷ s.rest)) (line_by g c (or_bytes n.name) n.depth n.kind)) none
      ∙ rw (line_by, plain) behind-name

  with-one : (r : Role) → makes s.verb ≡ Some r → same_line (words_said s) (line_by g c (or_bytes n.name) n.depth n.kind) ≡ true
  with-one r e =
      let one = one-element s.name (number-eq (length s.name) 1 (rw e at parts.0)) in
      let t = one.0 in
      let so : is_named n.kind ≡ true = is-named ∙ ap is_some e in
      let names : names_made s ≡ name_made s.verb t ∷ [] = ap (map (name_made s.verb)) one.1 in
      let named : is_name (name_made s.verb t) ≡ true = first-of-names (name_made s.verb t) (ap (all_of is_name) (sym names) ∙ good.names) in
      let bytes : or_bytes n.name ≡ name_made s.verb t = ap or_bytes (made.name ∙ ap name_given names)
      ∙ ap (λ b. or_bytes (some_if b (name_made s.verb t))) named in
      let depth : n.depth ≡ depth_made s.verb (t ∷ []) = made.depth ∙ ap (depth_made s.verb) one.1 in
      let token : or_bytes n.name ++ suffix n.depth ≡ t = ap₂ (λ a b. a ++ suffix b) bytes depth ∙ token-again s.verb t in
      ap (λ ns. same_line (with_name ns (verb_text s.verb ∷ s.rest)) (line_by g c (or_bytes n.name) n.depth n.kind)) one.1
      ∙ rw (line_by, so) (true-both _ _ (ap (same_bytes t) token ∙ same_self t) (true-both _ _ (same_self (codes "=")) behind-name))
    where
      first-of-names : (m : List ℕ) → all_of is_name (m ∷ []) ≡ true → is_name m ≡ true
      first-of-names m h = go (is_name m) refl
        where
          go : (b : Bool) → is_name m ≡ b → is_name m ≡ true
          go true p = p
          go false p = absurd (true≢false (sym (rw (all_of, p) at h)))

  -- the line spells the node's line
  pub line-spelled : (x : ℕ) → slice_get c.nodes x ≡ Some n → same_line (words_said s) (node_line g c x) ≡ true
  line-spelled x e = ap (same_line (words_said s)) (node-line-at g c x n e) ∙ go (makes s.verb) refl
    where
      go : (o : Option Role) → makes s.verb ≡ o → same_line (words_said s) (line_by g c (or_bytes n.name) n.depth n.kind) ≡ true
      go None f = with-none f
      go (Some r) f = with-one r f
