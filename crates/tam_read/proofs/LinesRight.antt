-- The nodes that the lines of a code make: what they name is there, their numbers, depths and names are right.
use Rattle.std.proofs.Common.{◌≡◌, ℕ, zero, suc, ◌+◌, ◌-◌, ◌%◌, ◌^◌, ◌<◌, ◌≤◌, Bool, true, false, not, ◌&&◌, ◌==◌, nat_lt, List, [], ◌∷◌, ◌++◌, length, map}
use Rattle.std.proofs.Common.{flat_map, Option, Some, None, refl, sym, ap, ap₂, subst, ◌∙◌, true≢false, arith, inl, inr, ◌⊎◌, ⊎_elim}
use Rattle.std.specs.Prelude.{slice_get, slice_index, nat_le, is_none, is_some}
use Rattle.std.proofs.Math.Dec.{leb, leb-zero}
use Rattle.std.proofs.lemmas.Bool.{leb-true, le-leb}
use Rattle.std.proofs.lemmas.Option.{slice_get_within}
use Rattle.tam_word.specs.Lists.{all_of, same_bytes, below}
use Rattle.tam_word.specs.Numbers.{word_of, place_of, some_if, decimal_up_to, negative_of, hexadecimal_of, is_decimal, are_digits, number_behind}
use Rattle.tam_word.proofs.NumberLemmas.{eight_digits}
use Rattle.tam_word.proofs.Members.{In, left-in, right-in, in-append, in-all, get-in, in-below}
use Rattle.tam_word.proofs.Tests.{both-true, true-both, number-eq, below-test, test-below}
use Rattle.tam_word.proofs.Spelled.{decimal_up_to-is}
use Rattle.tam_graph.specs.declared.kind.Kind.{Kind}
use Rattle.tam_graph.specs.declared.kind.Kind.TheVariants as kind
use Rattle.tam_graph.specs.declared.node.Node.{Node}
use Rattle.tam_text.specs.Names.{is_name}
use Rattle.tam_graph.specs.Graphs.{Code, kind_at, depth_at, or_kind, or_depth, node_numbers}
use Rattle.tam_graph.specs.Texts.{is_named, or_bytes}
use Rattle.tam_graph.specs.Written.{is_operand, is_call_node, is_cond_node, is_line, greatest_depth}
use Rattle.tam_graph.specs.Reading.{is_named_right}
use Rattle.tam_read.specs.declared.form.Verb.{Verb}
use Rattle.tam_read.specs.declared.form.Verb.TheVariants as verb
use Rattle.tam_read.specs.declared.form.Role.{Role}
use Rattle.tam_read.specs.declared.form.Role.TheVariants as role
use Rattle.tam_read.specs.declared.table.Made.{Made}
use Rattle.tam_read.specs.Sentences.{Sentence, makes, roles_of, same_role, has_depth, each_token, is_number_for, names_made, name_made}
use Rattle.tam_read.specs.Tables.{found, is_node}
use Rattle.tam_read.specs.Naming.{Known, is_made, is_node_found, is_code_found, number_for, first_number, second_number, third_number, or_number, or_zero}
use Rattle.tam_read.specs.Building.{kind_made, kind_said, depth_made, depth_written, name_given, else_kind}
use Rattle.tam_read.proofs.Spelling.{IsMade, IsGood, named-made, is_no_code, roles-no-code, made-some, some-there, few-roles, form-parts, one-element}
use Rattle.tam_read.proofs.Spelling.{no-element}

-- ---- kinds by their verbs

-- the node of a verb can be named so
abbrev pub named_for : Role → Verb → Bool
named_for r v = elim (makes v) [ None ↦ false | Some q ↦ same_role r q ]

module _ (c : Code) (a : ℕ) (there : nat_lt a (length c.nodes) ≡ true) where
  -- a value
  pub operand-there : (v : Verb) (x y z next other : ℕ) → kind_at c a ≡ else_kind other (kind_made v x y z next) → named_for role.Value v ≡ true
      → is_operand c a ≡ true
  operand-there verb.Param x y z next other e h = rw (there, e) refl
  operand-there verb.Const x y z next other e h = rw (there, e) refl
  operand-there (verb.Operate o) x y z next other e h = rw (there, e) refl
  operand-there verb.Seq x y z next other e h = rw (there, e) refl
  operand-there verb.Ret x y z next other e h = rw (there, e) refl
  operand-there verb.Alloc x y z next other e h = rw (there, e) refl
  operand-there verb.Fetch x y z next other e h = rw (there, e) refl
  operand-there verb.Merge x y z next other e h = rw (there, e) refl
  operand-there verb.Enter x y z next other e h = rw (there, e) refl
  operand-there v x y z next other e h = absurd (true≢false (sym h))

  -- a call
  pub call-there : (v : Verb) (x y z next other : ℕ) → kind_at c a ≡ else_kind other (kind_made v x y z next) → named_for role.Call v ≡ true
      → is_call_node c a ≡ true
  call-there verb.Call x y z next other e h = rw (there, e) refl
  call-there v x y z next other e h = absurd (true≢false (sym h))

  -- a cond
  pub cond-there : (v : Verb) (x y z next other : ℕ) → kind_at c a ≡ else_kind other (kind_made v x y z next) → named_for role.Cond v ≡ true
      → is_cond_node c a ≡ true
  cond-there verb.Cond x y z next other e h = rw (there, e) refl
  cond-there v x y z next other e h = absurd (true≢false (sym h))

-- a number is right in its role
abbrev pub is_right : ℕ → Code → Role → ℕ → Bool
is_right codes c role.Value a = is_operand c a
is_right codes c role.Call a = is_call_node c a
is_right codes c role.Cond a = is_cond_node c a
is_right codes c role.Callee d = nat_lt d codes
is_right codes c role.Code d = true
is_right codes c role.Place k = nat_lt k 64
is_right codes c role.Word w = nat_lt w (2 ^ 32)

-- up to three numbers are right in their roles
abbrev pub AreRight : ℕ → Code → List Role → ℕ → ℕ → ℕ → Type 0
AreRight codes c [] x y z = Unit {0}
AreRight codes c (r ∷ []) x y z = is_right codes c r x ≡ true
AreRight codes c (r ∷ s ∷ []) x y z = (is_right codes c r x ≡ true) × (is_right codes c s y ≡ true)
AreRight codes c (r ∷ s ∷ t ∷ rs) x y z = (is_right codes c r x ≡ true) × (is_right codes c s y ≡ true) × (is_right codes c t z ≡ true)

-- then the line is right
pub line-right : (codes : ℕ) (c : Code) (v : Verb) (x y z next other : ℕ) → is_node v ≡ true → AreRight codes c (roles_of v) x y z
    → is_line codes c (else_kind other (kind_made v x y z next)) ≡ true
line-right codes c verb.Param x y z next other n h = h
line-right codes c verb.Const x y z next other n h = h
line-right codes c (verb.Operate o) x y z next other n h = rw (all_of, h.0, h.1) refl
line-right codes c verb.Seq x y z next other n h = rw (all_of, h.0, h.1) refl
line-right codes c verb.Call x y z next other n h = h
line-right codes c verb.Arg x y z next other n h = true-both _ _ h.0 (true-both _ _ h.2 h.1)
line-right codes c verb.Ret x y z next other n h = true-both _ _ h.0 h.1
line-right codes c verb.Give x y z next other n h = true-both _ _ h.1 h.0
line-right codes c verb.Alloc x y z next other n h = rw (all_of, h) refl
line-right codes c verb.Fetch x y z next other n h = rw (all_of, h.0, h.1) refl
line-right codes c verb.Store x y z next other n h = rw (all_of, h.0, h.1, h.2) refl
line-right codes c verb.Cond x y z next other n h = rw (all_of, h) refl
line-right codes c verb.Switch x y z next other n h = true-both _ _ h.0 (true-both _ _ h.2 h.1)
line-right codes c verb.Merge x y z next other n h = true-both _ _ h.0 h.1
line-right codes c verb.Enter x y z next other n h = h
line-right codes c verb.Leave x y z next other n h = true-both _ _ h.1 h.0
line-right codes c verb.Code x y z next other n h = absurd (true≢false (sym n))
line-right codes c verb.Else x y z next other n h = absurd (true≢false (sym n))
line-right codes c verb.End x y z next other n h = absurd (true≢false (sym n))

-- ---- words are below 2 ^ 32

-- where something is given, the test holds
some-if : {X : Type 0} (t : Bool) (x y : X) → some_if t x ≡ Some y → (t ≡ true) × (x ≡ y)
some-if true x y e = (refl, cc)
some-if false x y e = absurd cc

-- a negative number is a word
negative-small : (o : Option ℕ) (w : ℕ) → negative_of o ≡ Some w → w < 2 ^ 32
negative-small None w e = absurd cc
negative-small (Some n) w e = let same : (2 ^ 32 - n) % 2 ^ 32 ≡ w = cc in omega (arith, same)

-- so are 1 to 8 hexadecimal digits
hexadecimal-small : (bs : List ℕ) (w : ℕ) → hexadecimal_of bs ≡ Some w → w < 2 ^ 32
hexadecimal-small bs w e =
    let p = some-if (nat_lt 0 (length bs) && (nat_lt (length bs) 9 && are_digits 16 bs)) (number_behind 16 0 bs) w e in
    let q = both-true (nat_lt (length bs) 9) (are_digits 16 bs) (both-true (nat_lt 0 (length bs)) _ p.0).1 in
    subst (λ n. n < 2 ^ 32) p.1 (eight_digits bs q.1 (test-below (length bs) 9 q.0))

-- and a number up to the greatest
decimal-small : (bs : List ℕ) (w : ℕ) → decimal_up_to (2 ^ 32 - 1) bs ≡ Some w → w < 2 ^ 32
decimal-small bs w e = let p = decimal_up_to-is (2 ^ 32 - 1) bs w (omega arith) e in omega (arith, p.1)

-- what reads as a word is below 2 ^ 32
pub word-small : (bs : List ℕ) (w : ℕ) → word_of bs ≡ Some w → w < 2 ^ 32
word-small [] w e = absurd cc
word-small (b ∷ []) w e = decimal-small (b ∷ []) w e
word-small (b ∷ c ∷ bs) w e = go (b == 45) refl ((b == 48) && (c == 120)) refl
  where
    go : (s : Bool) → (b == 45) ≡ s → (t : Bool) → ((b == 48) && (c == 120)) ≡ t → w < 2 ^ 32
    go true p t q = negative-small (decimal_up_to (2 ^ 31) (c ∷ bs)) w (rw (word_of, p) at e)
    go false p true q = hexadecimal-small bs w (rw (word_of, p, q) at e)
    go false p false q = decimal-small (b ∷ c ∷ bs) w (rw (word_of, p, q) at e)

-- ---- depths

-- a written depth is at most 3
depth-most : (t : List ℕ) → depth_written t ≤ 3
depth-most t = go (has_depth t) refl
  where
    go : (b : Bool) → has_depth t ≡ b → depth_written t ≤ 3
    go false p = rw (depth_written, p) (omega arith)
    go true p =
        let last = slice_index t (length t - 1) in
        let d = both-true (leb 49 last) (leb last 51) (both-true (slice_index t (length t - 2) == 58) _ (both-true (leb 2 (length t)) _ p).1).1 in
        let most : last ≤ 51 = leb-true last 51 d.1 in
        rw (depth_written, p) (omega arith)

-- and so is a node's
pub depth-small : (v : Verb) (ns : List (List ℕ)) → depth_made v ns ≤ 3
depth-small v [] = omega arith
depth-small v (n ∷ ns) = go (makes v) refl
  where
    by_role : (r : Role) (b : Bool) → same_role r role.Value ≡ b → makes v ≡ Some r → depth_made v (n ∷ ns) ≤ 3
    by_role r true p e = rw (depth_made, e, p) (depth-most n)
    by_role r false p e = rw (depth_made, e, p) (omega arith)

    go : (o : Option Role) → makes v ≡ o → depth_made v (n ∷ ns) ≤ 3
    go None e = rw (depth_made, e) (omega arith)
    go (Some r) e = by_role r (same_role r role.Value) refl e

-- a role is a value either way
role-turned : (r : Role) → same_role r role.Value ≡ same_role role.Value r
role-turned role.Value = refl
role-turned r = refl

-- a node that is no value has depth 0
pub no-depth : (v : Verb) (ns : List (List ℕ)) → named_for role.Value v ≡ false → depth_made v ns ≡ 0
no-depth v [] e = refl
no-depth v (n ∷ ns) e = go (makes v) refl
  where
    go : (o : Option Role) → makes v ≡ o → depth_made v (n ∷ ns) ≡ 0
    go None f = rw (depth_made, f) refl
    go (Some r) f = let no_value : same_role r role.Value ≡ false = role-turned r ∙ rw (named_for, f) at e in rw (depth_made, f, no_value) refl

-- ---- names

-- a node has a name where its line begins with one
pub named-right : (q : Known) (s : Sentence) (n : Node) → IsMade q s n → IsGood q s → is_named_right n ≡ true
named-right q s n made good = go (makes s.verb) refl
  where
    is-named : is_named n.kind ≡ is_some (makes s.verb)
    is-named =
        ap is_named made.kind
        ∙ named-made s.verb (first_number q (roles_of s.verb) s.rest) (second_number q (roles_of s.verb) s.rest)
        (third_number q (roles_of s.verb) s.rest) made.next made.other good.node

    go : (o : Option Role) → makes s.verb ≡ o → is_named_right n ≡ true
    go None e =
        let plain : is_named n.kind ≡ false = is-named ∙ ap is_some e in
        let none : s.name ≡ [] = no-element s.name (number-eq (length s.name) 0
        (rw e at (form-parts (makes s.verb) s.name s.rest (roles_of s.verb) good.form).0)) in
        let name : n.name ≡ None = made.name ∙ ap (λ ns. name_given (map (name_made s.verb) ns)) none in
        rw (is_named_right, plain, name) refl
    go (Some r) e =
        let so : is_named n.kind ≡ true = is-named ∙ ap is_some e in
        let one = one-element s.name (number-eq (length s.name) 1 (rw e at (form-parts (makes s.verb) s.name s.rest (roles_of s.verb) good.form).0)) in
        let names : names_made s ≡ name_made s.verb one.0 ∷ [] = ap (map (name_made s.verb)) one.1 in
        let right : is_name (name_made s.verb one.0) ≡ true = (first-of-list (name_made s.verb one.0) (ap (all_of is_name) (sym names) ∙ good.names)) in
        let name : n.name ≡ Some (name_made s.verb one.0) = made.name ∙ ap name_given names ∙ ap (λ b. some_if b (name_made s.verb one.0)) right in
        rw (is_named_right, so, name) right
      where
        first-of-list : (m : List ℕ) → all_of is_name (m ∷ []) ≡ true → is_name m ≡ true
        first-of-list m h = then (is_name m) refl
          where
            then : (b : Bool) → is_name m ≡ b → is_name m ≡ true
            then true k = k
            then false k = absurd (true≢false (sym (rw (all_of, k) at h)))
