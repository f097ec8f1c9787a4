-- A firing of a node whose block is entered and whose operands have words leaves a world that has its reasons, and sends messages that have theirs.
use Rattle.std.proofs.Common.{◌≡◌, ℕ, zero, suc, ◌<◌, Bool, true, false, ◌==◌, ◌&&◌, ◌||◌, not, List, [], ◌∷◌, map, length}
use Rattle.std.proofs.Common.{nat_lt, refl, sym, ap, ◌∙◌, arith, tests, subst, inl, inr}
use Rattle.tam_word.specs.Words.{meaning}
use Rattle.tam_word.specs.declared.op.Op.{Op}
use Rattle.tam_graph.specs.Written.{is_operand, is_call_node}
use Rattle.tam_graph.specs.declared.kind.Kind.{Kind}
use Rattle.tam_graph.specs.declared.kind.Kind.TheVariants.{Param, Const, Op as Operate, Seq, Call, Arg, Ret, Give, Alloc, Fetch, Store, Cond, Switch}
use Rattle.tam_graph.specs.declared.kind.Kind.TheVariants.{Leave}
use Rattle.tam_msgs.specs.declared.message.Message.TheVariants.{Word as Carry, Frame as Begin, Cells as Make, Fetch as Ask_cell, Store as Put_cell}
use Rattle.tam_msgs.specs.Messages.{outside, site}
use Rattle.tam_graph.specs.Graphs.{Graph, Code, code_of, kind_at, depth_at, operands_of, callee_of}
use Rattle.tam_graph.specs.Graphs.{node_where, node_numbers, is_param, is_ret}
use Rattle.tam_graph.specs.Accepted.{gives_depth}
use Rattle.tam_fire.specs.FiringRules.{Value, Word, Activation, Array, Val, Fired, Holds, node_of, code_at, const_gives}
use Rattle.tam_fire.specs.FiringRules.{op_gives, seq_gives, arg_comes, result_comes}
use Rattle.tam_fire.proofs.Following.{holds-by}
use Rattle.tam_world.specs.Worlds.{World, changes, sends_only, got, activation_at, its_code, words_of, result_message}
use Rattle.tam_world.specs.Worlds.{firing_of, fired_with, fired}
use Rattle.tam_flow.specs.Told.{IsNumber, path_of}
use Rattle.tam_flow.specs.Reached.{IsThere}
use Rattle.tam_word.proofs.Tests.{and-left, and-right, number-eq, test-below}
use Rattle.tam_word.proofs.Each.{all-of_each, each-below, all-more, all-map}
use Rattle.tam_flow.proofs.Growing.{grows-same}
use Rattle.tam_flow.proofs.Justified.{StandsFor, IsPutBy, IsMessage}
use Rattle.tam_flow.proofs.Deliveries.{IsSoundEffect}
use Rattle.tam_flow.proofs.Nodes.{operand, call-operand, where-each, all-depths, right-depth, is-param, is-ret}
use Rattle.tam_flow.proofs.FiringReasons.{HaveThese, words-are, no-call, MayFire, path-code, node, depth, right, any-operand}
use Rattle.tam_flow.proofs.FiringReasons.{word-operand, call-is, flat-word, here, fires, its_line, one-word, some-sent}
use Rattle.tam_flow.proofs.FiringBranches.{fire-cond, fire-switch, fire-leave}

-- a depth above 0 is one more than a depth
pub some-depth : (d : ℕ) → 0 < d → (e : ℕ) × (d ≡ suc e)
some-depth zero l = absurd (omega arith)
some-depth (suc e) l = (e, refl)

-- where result k has the depth that a ret of place k has
given : (k d e : ℕ) → (not (k == k) || (d == e)) ≡ true → e ≡ d
given k d e h = let same : (k == k) ≡ true = grind (arith, tests) in sym (number-eq d e (rw same at h))

module _ {g : Graph} {args : List ℕ} {w : World} {i x : ℕ} (firer : MayFire g args w i x) where
  -- a const gives its word
  fire-const : (v : ℕ) → kind_at (its_code g w i) x ≡ Const v → IsSoundEffect g args w (changes (got w i x v))
  fire-const v e =
      one-word firer v (Word v) (Const v) e refl (flat-word firer.stands x v (number-eq _ _ (right firer.stands x (Const v) firer.inside e)))
      (holds-by g args (const_gives (node firer.stands x ∙ e)) (here firer, tt))

  -- an operator gives what it means of its operands' words
  fire-operate : (o : Op) (l r u v : ℕ) → kind_at (its_code g w i) x ≡ Operate o l r → HaveThese w i (l ∷ r ∷ []) (u ∷ v ∷ [])
      → IsSoundEffect g args w (changes (got w i x (meaning o u v)))
  fire-operate o l r u v e h =
      let d = right firer.stands x (Operate o l r) firer.inside e in
      let ops = all-of_each (is_operand (its_code g w i)) (l ∷ r ∷ []) (its_line firer (Operate o l r) e) in
      one-word firer (meaning o u v) (Word (meaning o u v)) (Operate o l r) e refl (flat-word firer.stands x (meaning o u v) (number-eq _ _ (and-left _ _ d)))
      (holds-by g args (op_gives {a = u} {b = v} {o = o} (node firer.stands x ∙ e)) (
        here firer,
        (
          word-operand firer.stands l u (operand (its_code g w i) l ops.0).no_call (number-eq _ _ (and-left _ _ (and-right _ _ d))) h.0,
          (word-operand firer.stands r v (operand (its_code g w i) r ops.1.0).no_call (number-eq _ _ (and-right _ _ (and-right _ _ d))) h.1.0, tt),
        ),
      ))

  -- a seq gives its first operand's word
  fire-seq : (l r u v : ℕ) → kind_at (its_code g w i) x ≡ Seq l r → HaveThese w i (l ∷ r ∷ []) (u ∷ v ∷ []) → IsSoundEffect g args w (changes (got w i x u))
  fire-seq l r u v e h =
      let ops = all-of_each (is_operand (its_code g w i)) (l ∷ r ∷ []) (its_line firer (Seq l r) e) in
      let a = any-operand firer.stands l u (operand (its_code g w i) l ops.0).no_call h.0 in
      let b = any-operand firer.stands r v (operand (its_code g w i) r ops.1.0).no_call h.1.0 in
      one-word firer u a.0 (Seq l r) e refl (subst (λ d. StandsFor g w d u a.0) (sym (number-eq _ _ (right firer.stands x (Seq l r) firer.inside e))) a.1)
      (holds-by g args (seq_gives {a = a.0} {b = b.0} (node firer.stands x ∙ e)) (here firer, (a.2, (b.2, tt))))

  -- a call wishes for an activation
  fire-call : (d : ℕ) → kind_at (its_code g w i) x ≡ Call d → IsSoundEffect g args w (sends_only w (Begin d i x ∷ []))
  fire-call d e =
      some-sent firer (Begin d i x ∷ []) (
        (
          path_of w i,
          (firer.stands.there, refl),
          node firer.stands x
              ∙ e,
          test-below d (length g.codes) (its_line firer (Call d) e),
          fires firer (Call d) [] e refl refl tt,
        ),
        tt,
      )

  -- an alloc wishes for an array
  fire-alloc : (a n : ℕ) → kind_at (its_code g w i) x ≡ Alloc a → HaveThese w i (a ∷ []) (n ∷ []) → IsSoundEffect g args w (sends_only w (Make n i x ∷ []))
  fire-alloc a n e h =
      let d = right firer.stands x (Alloc a) firer.inside e in
      let ops = all-of_each (is_operand (its_code g w i)) (a ∷ []) (its_line firer (Alloc a) e) in
      let deep = some-depth (depth_at (its_code g w i) x) (test-below _ _ (and-left _ _ (and-right _ _ d))) in
      let value = word-operand firer.stands a n (operand (its_code g w i) a ops.0).no_call (number-eq _ _ (and-left _ _ d)) h.0 in
      some-sent firer (Make n i x ∷ []) (
        (
          path_of w i,
          a,
          deep.0,
          (firer.stands.there, refl),
          node firer.stands x ∙ e,
          depth firer.stands x
              ∙ deep.1,
          fires firer (Alloc a) (Word n ∷ []) e refl refl (value, tt),
        ),
        tt,
      )

  -- a fetch asks for a cell
  fire-fetch : (a j u v : ℕ) → kind_at (its_code g w i) x ≡ Fetch a j → HaveThese w i (a ∷ j ∷ []) (u ∷ v ∷ [])
      → IsSoundEffect g args w (sends_only w (Ask_cell u v i x (site (activation_at w i).code x) ∷ []))
  fire-fetch a j u v e h =
      let d = right firer.stands x (Fetch a j) firer.inside e in
      let ops = all-of_each (is_operand (its_code g w i)) (a ∷ j ∷ []) (its_line firer (Fetch a j) e) in
      let array = any-operand firer.stands a u (operand (its_code g w i) a ops.0).no_call h.0 in
      let index = word-operand firer.stands j v (operand (its_code g w i) j ops.1.0).no_call (number-eq _ _ (and-left _ _ d)) h.1.0 in
      let deep : depth_at (its_code g w i) a ≡ suc (depth_at (its_code g w i) x) = number-eq _ _ (and-right _ _ d) in
      let stands = subst (λ k. StandsFor g w k u array.0) deep array.1 in
      some-sent firer (Ask_cell u v i x (site (activation_at w i).code x) ∷ []) (
        (
          record {
            q = path_of w i;
            p = stands.0;
            z = stands.1;
            b = a;
            c = j;
            number = (firer.stands.there, refl);
            fetches = node firer.stands x ∙ e;
            array = stands.2;
            depth = stands.3 ∙ ap suc (sym (depth firer.stands x));
            fired = fires firer (Fetch a j) (Array stands.0 stands.1 ∷ Word v ∷ []) e refl refl
                (subst (λ y. Holds g args (Val (path_of w i) a y)) stands.4 array.2, (index, tt));
          },
          refl,
        ),
        tt,
      )

  -- what a store puts has its reason
  pub put-by : (a j b t u v : ℕ) → kind_at (its_code g w i) x ≡ Store a j b → HaveThese w i (a ∷ j ∷ b ∷ []) (t ∷ u ∷ v ∷ [])
      → IsPutBy g args w i x t u v (site (activation_at w i).code x)
  put-by a j b t u v e h =
      let d = right firer.stands x (Store a j b) firer.inside e in
      let ops = all-of_each (is_operand (its_code g w i)) (a ∷ j ∷ b ∷ []) (its_line firer (Store a j b) e) in
      let array = any-operand firer.stands a t (operand (its_code g w i) a ops.0).no_call h.0 in
      let index = word-operand firer.stands j u (operand (its_code g w i) j ops.1.0).no_call (number-eq _ _ (and-left _ _ d)) h.1.0 in
      let value = any-operand firer.stands b v (operand (its_code g w i) b ops.1.1.0).no_call h.1.1.0 in
      let deep : depth_at (its_code g w i) a ≡ suc (depth_at (its_code g w i) b) = number-eq _ _ (and-right _ _ d) in
      let stands = subst (λ k. StandsFor g w k t array.0) deep array.1 in
      record {
        q = path_of w i;
        number = (firer.stands.there, refl);
        p = stands.0;
        z = stands.1;
        b = a;
        c = j;
        e = b;
        d = depth_at (its_code g w i) b;
        value = value.0;
        stores = node firer.stands x ∙ e;
        here = ap (λ c. site c x) (sym (path-code firer.stands));
        array = stands.2;
        depth = stands.3;
        stands = value.1;
        fired = fires firer (Store a j b) (Array stands.0 stands.1 ∷ Word u ∷ value.0 ∷ []) e refl refl
            (subst (λ y. Holds g args (Val (path_of w i) a y)) stands.4 array.2, (index, (value.2, tt)));
      }

  -- so a store sends it
  fire-store : (a j b t u v : ℕ) → kind_at (its_code g w i) x ≡ Store a j b → HaveThese w i (a ∷ j ∷ b ∷ []) (t ∷ u ∷ v ∷ [])
      → IsSoundEffect g args w (sends_only w (Put_cell t u v (site (activation_at w i).code x) ∷ []))
  fire-store a j b t u v e h = some-sent firer (Put_cell t u v (site (activation_at w i).code x) ∷ []) ((i, x, put-by a j b t u v e h), tt)

  -- an arg sends its word to the param of its place
  fire-arg : (f k a v p : ℕ) → kind_at (its_code g w i) x ≡ Arg f k a → HaveThese w i (a ∷ f ∷ []) (v ∷ p ∷ [])
      → IsSoundEffect g args w (sends_only w (map (λ y. Carry p y v) (node_where (code_of g (callee_of (its_code g w i) f)) (is_param k))))
  fire-arg f k a v p e h =
      some-sent firer (map (λ y. Carry p y v) (node_where (code_of g (callee_of (its_code g w i) f)) (is_param k)))
      (all-map (IsMessage g args w) (λ y. Carry p y v) (node_where (code_of g (callee_of (its_code g w i) f)) (is_param k))
      (all-more (λ y. (y < length (code_of g (callee_of (its_code g w i) f)).nodes) ×
      (is_param k (kind_at (code_of g (callee_of (its_code g w i) f)) y) ≡ true))
      (λ y. IsMessage g args w (Carry p y v)) message (node_where (code_of g (callee_of (its_code g w i) f)) (is_param k))
      (where-each (code_of g (callee_of (its_code g w i) f)) (is_param k))))
    where
      cd : Code
      cd = code_of g (callee_of (its_code g w i) f)

      at_call : (d : ℕ) × (kind_at (its_code g w i) f ≡ Call d)
      at_call = call-operand (its_code g w i) f
          (and-left (is_call_node (its_code g w i) f) (is_operand (its_code g w i) a && nat_lt k 64) (its_line firer (Arg f k a) e))

      value : (y : Value) × StandsFor g w (depth_at (its_code g w i) a) v y × Holds g args (Val (path_of w i) a y)
      value = any-operand firer.stands a v (operand (its_code g w i) a
          (and-left (is_operand (its_code g w i) a) (nat_lt k 64)
          (and-right (is_call_node (its_code g w i) f) (is_operand (its_code g w i) a && nat_lt k 64) (its_line firer (Arg f k a) e)))).no_call h.0

      callee : IsNumber w (f ∷ path_of w i) p × Holds g args (Val (path_of w i) f (Activation (f ∷ path_of w i)))
      callee = call-is firer.stands f p at_call.0 at_call.1 h.1.0

      sent : Holds g args (Fired (path_of w i) x (value.0 ∷ Activation (f ∷ path_of w i) ∷ []))
      sent = fires firer (Arg f k a) (value.0 ∷ Activation (f ∷ path_of w i) ∷ []) e refl refl (value.2, (callee.1, tt))

      code : code_at g (f ∷ path_of w i) ≡ callee_of (its_code g w i) f
      code = ap (λ m. callee_of (code_of g m) f) (path-code firer.stands)

      message : (y : ℕ) → (y < length (code_of g (callee_of (its_code g w i) f)).nodes) ×
          (is_param k (kind_at (code_of g (callee_of (its_code g w i) f)) y) ≡ true)
          → IsMessage g args w (Carry p y v)
      message y m =
          let kind : node_of g (f ∷ path_of w i) y ≡ Param k = ap (λ n. kind_at (code_of g n) y) code ∙ is-param k _ m.1 in
          let deep : depth_at (code_of g (callee_of (its_code g w i) f)) y ≡ depth_at (its_code g w i) a =
          all-depths (code_of g (callee_of (its_code g w i) f)) (is_param k) (depth_at (its_code g w i) a) y
          (right firer.stands x (Arg f k a) firer.inside e) m.0 m.1 in
          inr (
            f ∷ path_of w i,
            callee.0,
            record {
              value = value.0;
              means = inr (
                no-call _ (Param k) kind refl,
                subst (λ d. StandsFor g w d v value.0)
                    (sym (ap (λ n. depth_at (code_of g n) y) code ∙ deep)) value.1,
              );
              holds = holds-by g args (arg_comes {p = f ∷ path_of w i} {q = path_of w i} {v = value.0} (node firer.stands x ∙ e) kind) (sent, tt);
            },
          )

  -- a give sends its word to the ret of its place, or to the outside
  fire-give : (k a v : ℕ) → kind_at (its_code g w i) x ≡ Give k a → HaveThese w i (a ∷ []) (v ∷ [])
      → IsSoundEffect g args w (sends_only w (result_message g w i k v))
  fire-give k a v e h = go ((activation_at w i).caller == outside) refl
    where
      value : (y : Value) × StandsFor g w (depth_at (its_code g w i) a) v y × Holds g args (Val (path_of w i) a y)
      value = any-operand firer.stands a v
          (operand (its_code g w i) a (and-left (is_operand (its_code g w i) a) (nat_lt k 64) (its_line firer (Give k a) e))).no_call h.0

      sent : Holds g args (Fired (path_of w i) x (value.0 ∷ []))
      sent = fires firer (Give k a) (value.0 ∷ []) e refl refl (value.2, tt)

      inner : (f j : ℕ) → (activation_at w i).caller ≡ j → (activation_at w i).call ≡ f → IsThere w j → path_of w i ≡ f ∷ path_of w j
          → (y : ℕ) → (y < length (its_code g w j).nodes) × (is_ret f k (kind_at (its_code g w j) y) ≡ true) → IsMessage g args w (Carry j y v)
      inner f j c d t r y m =
          inr (
            path_of w j,
            (t, refl),
            record {
              value = value.0;
              means = inr (
                no-call _ (Ret f k) kind refl,
                subst (λ n. StandsFor g w n v value.0)
                    (sym (ap (λ n. depth_at (code_of g n) y) (firer.stands.sound.path_codes j t) ∙ deep)) value.1,
              );
              holds = holds-by g args (result_comes {p = path_of w j} {v = value.0} gives kind)
                  (subst (λ q. Holds g args (Fired q x (value.0 ∷ []))) r sent, tt);
            },
          )
        where
          kind : node_of g (path_of w j) y ≡ Ret f k
          kind = ap (λ n. kind_at (code_of g n) y) (firer.stands.sound.path_codes j t) ∙ is-ret f k _ m.1

          gives : node_of g (f ∷ path_of w j) x ≡ Give k a
          gives = subst (λ q. node_of g q x ≡ Give k a) r (node firer.stands x ∙ e)

          code : callee_of (its_code g w j) f ≡ (activation_at w i).code
          code = sym (ap (λ n. callee_of (code_of g n) f) (firer.stands.sound.path_codes j t)) ∙ sym (ap (code_at g) r) ∙ (path-code firer.stands)

          each : gives_depth (its_code g w i) k (depth_at (its_code g w j) y) (kind_at (its_code g w i) x) ≡ true
          each = subst (λ n. x < length (code_of g n).nodes
              → gives_depth (code_of g n) k (depth_at (its_code g w j) y) (kind_at (code_of g n) x) ≡ true) code
              (λ l. each-below (λ z. gives_depth (code_of g (callee_of (its_code g w j) f)) k (depth_at (its_code g w j) y)
              (kind_at (code_of g (callee_of (its_code g w j) f)) z) ≡ true)
              (length (code_of g (callee_of (its_code g w j) f)).nodes) x
              (all-of_each (λ z. gives_depth (code_of g (callee_of (its_code g w j) f)) k (depth_at (its_code g w j) y)
              (kind_at (code_of g (callee_of (its_code g w j) f)) z))
              (node_numbers (code_of g (callee_of (its_code g w j) f)))
              (right-depth g firer.stands.accepted (activation_at w j).code (firer.stands.sound.codes j t) y (Ret f k) m.0 (is-ret f k _ m.1))) l) firer.inside

          deep : depth_at (its_code g w j) y ≡ depth_at (its_code g w i) a
          deep = given k (depth_at (its_code g w i) a) (depth_at (its_code g w j) y)
              (subst (λ d. gives_depth (its_code g w i) k (depth_at (its_code g w j) y) d ≡ true) e each)

      go : (b : Bool) → ((activation_at w i).caller == outside) ≡ b → IsSoundEffect g args w (sends_only w (result_message g w i k v))
      go true c = rw (result_message, c) (some-sent firer (Carry outside k v ∷ []) (inl refl, tt))
      go false c =
          let r = firer.stands.sound.callers i firer.stands.there c in
          rw (result_message, c) (some-sent firer
          (map (λ y. Carry (activation_at w i).caller y v) (node_where (its_code g w (activation_at w i).caller) (is_ret (activation_at w i).call k)))
          (all-map (IsMessage g args w) (λ y. Carry (activation_at w i).caller y v)
          (node_where (its_code g w (activation_at w i).caller) (is_ret (activation_at w i).call k))
          (all-more (λ y. (y < length (its_code g w (activation_at w i).caller).nodes) ×
          (is_ret (activation_at w i).call k (kind_at (its_code g w (activation_at w i).caller) y) ≡ true))
          (λ y. IsMessage g args w (Carry (activation_at w i).caller y v)) (inner (activation_at w i).call (activation_at w i).caller refl refl r.0 r.1)
          (node_where (its_code g w (activation_at w i).caller) (is_ret (activation_at w i).call k))
          (where-each (its_code g w (activation_at w i).caller) (is_ret (activation_at w i).call k)))))

  -- any node
  fire : (k : Kind) (vs : List ℕ) → kind_at (its_code g w i) x ≡ k → HaveThese w i (operands_of (its_code g w i) k) vs
      → IsSoundEffect g args w (firing_of g w i x k vs)
  fire (Const v) [] e h = fire-const v e
  fire (Operate o l r) (u ∷ v ∷ []) e h = fire-operate o l r u v e h
  fire (Seq l r) (u ∷ v ∷ []) e h = fire-seq l r u v e h
  fire (Call c) [] e h = fire-call c e
  fire (Arg f k a) (v ∷ p ∷ []) e h = fire-arg f k a v p e h
  fire (Give k a) (v ∷ []) e h = fire-give k a v e h
  fire (Alloc a) (n ∷ []) e h = fire-alloc a n e h
  fire (Fetch a j) (u ∷ v ∷ []) e h = fire-fetch a j u v e h
  fire (Store a j b) (t ∷ u ∷ v ∷ []) e h = fire-store a j b t u v e h
  fire (Cond p y n) (v ∷ []) e h = fire-cond firer p y n v e h
  fire (Switch d k a) (u ∷ v ∷ []) e h = fire-switch firer d k a u v e h
  fire (Leave k a) (v ∷ []) e h = fire-leave firer k a v e h
  fire k vs e h = record { world = firer.stands.sound; grows = grows-same w; sends = tt }

  -- the firing of the node
  pub fired-sound : IsSoundEffect g args w (fired g w i x)
  fired-sound = go (words_of w i (operands_of (its_code g w i) (kind_at (its_code g w i) x)))
      (words-are w i (operands_of (its_code g w i) (kind_at (its_code g w i) x)))
    where
      go : (ws : List (List ℕ)) → ((vs : List ℕ) (more : List (List ℕ)) → ws ≡ vs ∷ more
          → HaveThese w i (operands_of (its_code g w i) (kind_at (its_code g w i) x)) vs)
          → IsSoundEffect g args w (fired_with g w i x ws)
      go [] f = record { world = firer.stands.sound; grows = grows-same w; sends = tt }
      go (vs ∷ more) f = fire (kind_at (its_code g w i) x) vs refl (f vs more refl)
