-- Rule by rule: what a state at rest tells of the facts that a rule starts from, it tells of the fact that the rule gives.
use Rattle.std.proofs.Common.{◌≡◌, ℕ, zero, suc, ◌<◌, List, [], ◌∷◌, true, refl, sym, subst, ap, ap₂, ◌∙◌, length, arith, Some, slice_get}
use Rattle.std.specs.List.{AllByRecursion}
use Rattle.tam_word.specs.declared.op.Op.{Op}
use Rattle.tam_word.specs.Words.{meaning}
use Rattle.tam_word.proofs.Members.{In}
use Rattle.tam_graph.specs.declared.kind.Kind.{Kind}
use Rattle.tam_graph.specs.declared.kind.Kind.TheVariants.{Param, Const, Op as Operate, Seq, Call, Arg, Ret, Give, Cond, Switch, Merge, Enter, Leave}
use Rattle.tam_msgs.specs.declared.message.Message.TheVariants.{Word as Carry, Frame as Begin}
use Rattle.tam_graph.specs.Graphs.{Graph, code_of, kind_at, block_at, depth_at, operands_of, is_outlet, callee_of, callee_of_kind, chosen_branch, test_of}
use Rattle.tam_graph.specs.Graphs.{test_of_kind}
use Rattle.tam_graph.specs.Accepted.{IsAccepted}
use Rattle.tam_graph.proofs.Depths.{const-depth, op-depth, seq-depth, arg-depth, ret-depth, cond-depth, leave-depth}
use Rattle.tam_graph.proofs.Branches.{enter-depth}
use Rattle.tam_graph.proofs.NamedNodes.{op-line, seq-line, arg-line, give-line, cond-line, switch-line, leave-line}
use Rattle.tam_split.specs.GraphPartitions.{Partitions, are_valid}
use Rattle.tam_split.proofs.Depends.{Depends}
use Rattle.tam_fire.specs.FiringRules.{Path, Value, Word, Activation, Array, Begun, Entered, Fired, the_code, node_of, block_of, values}
use Rattle.tam_world.specs.Worlds.{World, activation_at, its_code, has_entered}
use Rattle.tam_flow.specs.Journals.{State}
use Rattle.tam_flow.specs.Told.{path_of, meant_at, HasWord, HaveWords, IsNumber, Tells}
use Rattle.tam_flow.specs.Reached.{kind_of, depth_of, IsThere, WasSent, Has, HasSome, HaveSome, Ran, WordSource, IsReached}
use Rattle.tam_flow.proofs.Quiet.{IsAtRest, sent-arrived}
use Rattle.tam_flow.proofs.Claims.{Meant, HasWordAt, ValueClaim, Claim, same-meaning, word-meaning, depends-more, the-code, kind-here, same-number}
use Rattle.tam_flow.proofs.Claims.{claim-inlet, claim-inner, values-depend, values-have, carry-has, outlet-ran}

-- ---- equal values have equal parts

-- words
pub word-eq : (a b : ℕ) → ◌≡◌ {A = Value} (Word a) (Word b) → a ≡ b
word-eq a b h = cc

-- activations
pub activation-eq : (p q : Path) → ◌≡◌ {A = Value} (Activation p) (Activation q) → p ≡ q
activation-eq p q h = cc

-- arrays
pub array-eq : (p q : Path) (x y : ℕ) → ◌≡◌ {A = Value} (Array p x) (Array q y) → (p ≡ q) × (x ≡ y)
array-eq p q x y h = (cc, cc)

-- paths
pub cons-eq : (a b : ℕ) (p q : Path) → a ∷ p ≡ b ∷ q → (a ≡ b) × (p ≡ q)
cons-eq a b p q h = (cc, cc)

-- a word of a call means the activation
pub call-meaning : (w : World) (k : Kind) (c d u : ℕ) → k ≡ Call c → meant_at w k d u ≡ Activation (path_of w u)
call-meaning w k c d u e = subst (λ z. meant_at w z d u ≡ Activation (path_of w u)) (sym e) refl

module _ (g : Graph) (all : Partitions) (args : List ℕ) (s : State) (acc : IsAccepted g) (reached : IsReached g all args s) (rest : IsAtRest g all s)
    (valid : are_valid g all ≡ true) where
  -- the words of a node of a known kind
  pub words-of : (i y : ℕ) (k : Kind) (vs : List Value) → kind_of g s.world i y ≡ k
      → HaveWords g s.world i (operands_of (its_code g s.world i) (kind_of g s.world i y)) vs
      → HaveWords g s.world i (operands_of (its_code g s.world i) k) vs
  words-of i y k vs e h = subst (λ z. HaveWords g s.world i (operands_of (its_code g s.world i) z) vs) e h

  -- where a word of a node of a known kind comes from
  source-of : (i x u : ℕ) (k : Kind) → kind_of g s.world i x ≡ k → Has s i x u → WordSource g all s i x u k
  source-of i x u k e h = subst (WordSource g all s i x u) e (reached.words.sources i x u h)

  -- ---- inside a block

  -- a const gives its word
  pub claim-const : (q : Path) (x w : ℕ) → node_of g q x ≡ Const w → ValueClaim g s q x (Word w)
  claim-const q x w e = claim-inner g all args s reached q x (Word w) (rw e refl) means (λ a m. absurd (rw e at m))
    where
      means : (i u : ℕ) → IsNumber s.world q i → Has s i x u → Word w ≡ Meant g s.world i x u
      means i u num h =
          let k = kind-here g all args s reached q i x (Const w) num e in
          ap Word (sym (source-of i x u (Const w) k h))
          ∙ sym (word-meaning s.world (kind_of g s.world i x) (depth_of g s.world i x) u (λ c p. cc)
          (const-depth g acc (activation_at s.world i).code (reached.activations.codes i num.0) x w k))

  -- an operator its meaning
  pub claim-op : (q : Path) (x l r a b : ℕ) (o : Op) → node_of g q x ≡ Operate o l r → ValueClaim g s q l (Word a) → ValueClaim g s q r (Word b)
      → ValueClaim g s q x (Word (meaning o a b))
  claim-op q x l r a b o e cl cr =
      claim-inner g all args s reached q x (Word (meaning o a b)) (rw e refl) means
      (λ y m. values-depend g all args s reached q (l ∷ r ∷ []) (Word a ∷ Word b ∷ []) refl (cl, (cr, tt)) y (rw e at m))
    where
      means : (i u : ℕ) → IsNumber s.world q i → Has s i x u → Word (meaning o a b) ≡ Meant g s.world i x u
      means i u num h =
          let k = kind-here g all args s reached q i x (Operate o l r) num e in
          let src = source-of i x u (Operate o l r) k h in
          let d = op-depth g acc (activation_at s.world i).code (reached.activations.codes i num.0) x l r o k in
          let n = op-line g acc (activation_at s.world i).code (reached.activations.codes i num.0) x l r o k in
          let p : a ≡ src.0 = word-eq a src.0 (cl.means i src.0 num src.2 ∙ word-meaning s.world (kind_of g s.world i l)
          (depth_of g s.world i l) src.0 n.0 d.1) in
          let t : b ≡ src.1 = word-eq b src.1 (cr.means i src.1 num src.3 ∙ word-meaning s.world (kind_of g s.world i r)
          (depth_of g s.world i r) src.1 n.1 d.2) in
          ap Word (ap₂ (meaning o) p t ∙ sym src.4) ∙ sym (word-meaning s.world (kind_of g s.world i x) (depth_of g s.world i x) u (λ c p. cc) d.0)

  -- a seq its first value
  pub claim-seq : (q : Path) (x l r : ℕ) (a b : Value) → node_of g q x ≡ Seq l r → ValueClaim g s q l a → ValueClaim g s q r b → ValueClaim g s q x a
  claim-seq q x l r a b e cl cr =
      claim-inner g all args s reached q x a (rw e refl) means
      (λ y m. values-depend g all args s reached q (l ∷ r ∷ []) (a ∷ b ∷ []) refl (cl, (cr, tt)) y (rw e at m))
    where
      means : (i u : ℕ) → IsNumber s.world q i → Has s i x u → a ≡ Meant g s.world i x u
      means i u num h =
          let k = kind-here g all args s reached q i x (Seq l r) num e in
          let src = source-of i x u (Seq l r) k h in
          let d = seq-depth g acc (activation_at s.world i).code (reached.activations.codes i num.0) x l r k in
          let n = seq-line g acc (activation_at s.world i).code (reached.activations.codes i num.0) x l r k in
          cl.means i u num src.0
          ∙ same-meaning s.world (kind_of g s.world i l) (kind_of g s.world i x) (depth_of g s.world i l) (depth_of g s.world i x) u n (λ c p. cc) (sym d)

  -- ---- an outlet fires

  -- an outlet of a block that was entered fires with the values of its operands
  pub told-fired : (q : Path) (x : ℕ) (vs : List Value) → is_outlet (node_of g q x) ≡ true → length vs ≡ length (operands_of (the_code g q) (node_of g q x))
      → Tells g all s (Entered q (block_of g q x)) → AllByRecursion (Claim g all s) (values q (operands_of (the_code g q) (node_of g q x)) vs)
      → Tells g all s (Fired q x vs)
  told-fired q x vs out l (i, num, entered) h = (i, num, outlet, ran, have)
    where
      same : the_code g q ≡ its_code g s.world i
      same = the-code g all args s reached q i num

      outlet : is_outlet (kind_of g s.world i x) ≡ true
      outlet = subst (λ c. is_outlet (kind_at c x) ≡ true) same out

      here : (y : ℕ) → HasWordAt s q y → HasSome s i y
      here y (j, n, t) = subst (λ z. HasSome s z y) (same-number g all args s reached q j i n num) t

      each : (a : ℕ) → In a (operands_of (its_code g s.world i) (kind_of g s.world i x)) → Depends (its_code g s.world i) (HasSome s i) a
      each = subst (λ c. (a : ℕ) → In a (operands_of c (kind_at c x)) → Depends c (HasSome s i) a) same
          (λ a m. depends-more (the_code g q) (HasWordAt s q) (HasSome s i) a here
          (values-depend g all args s reached q (operands_of (the_code g q) (node_of g q x)) vs l h a m))

      ran : Ran g all s i x
      ran = outlet-ran g all args s reached rest valid i x num.0 outlet (subst (λ c. has_entered s.world i (block_at c x) ≡ true) same entered) each

      ready : HaveSome s i (operands_of (the_code g q) (node_of g q x))
      ready = subst (λ c. HaveSome s i (operands_of c (kind_at c x))) (sym same) (reached.words.operands_ready i x ran)

      have : HaveWords g s.world i (operands_of (its_code g s.world i) (kind_of g s.world i x)) vs
      have = subst (λ c. HaveWords g s.world i (operands_of c (kind_at c x)) vs) same
          (values-have g all args s reached q i (operands_of (the_code g q) (node_of g q x)) vs num l ready h)

  -- ---- calls

  -- the activation that a call which ran has begun
  callee : (q : Path) (f c : ℕ) → node_of g q f ≡ Call c → (i : ℕ) → IsNumber s.world q i → Ran g all s i f → (j : ℕ) × IsNumber s.world (f ∷ q) j
      × WasSent s (Carry i f j)
  callee q f c e i num ran = (b.0, (b.2, path), b.6)
    where
      b : (j : ℕ) × (0 < j) × IsThere s.world j × ((activation_at s.world j).code ≡ c) × ((activation_at s.world j).caller ≡ i)
          × ((activation_at s.world j).call ≡ f)
          × WasSent s (Carry i f j)
      b = reached.arrivals.began c i f
          (sent-arrived g all s rest (Begin c i f) (reached.outlets.call_sent i f c ran (kind-here g all args s reached q i f (Call c) num e)))

      path : path_of s.world b.0 ≡ f ∷ q
      path = reached.activations.paths b.0 b.1 b.2 ∙ ap₂ (λ (a : ℕ) (p : Path). a ∷ p) b.5 (ap (path_of s.world) b.4 ∙ num.1)

  -- a call that fired begins its callee
  pub claim-begun : (q : Path) (f c : ℕ) → node_of g q f ≡ Call c → Tells g all s (Fired q f []) → Tells g all s (Begun (f ∷ q))
  claim-begun q f c e (i, num, out, ran, have) = let j = callee q f c e i num ran in (j.0, j.1)

  -- and answers with it
  pub claim-call : (q : Path) (f c : ℕ) → node_of g q f ≡ Call c → Tells g all s (Fired q f []) → ValueClaim g s q f (Activation (f ∷ q))
  claim-call q f c e (i, num, out, ran, have) =
      let j = callee q f c e i num ran in
      let k = kind-here g all args s reached q i f (Call c) num e in
      claim-inlet g all args s reached q f (Activation (f ∷ q)) i j.0 (rw e refl) num (carry-has g all args s reached rest valid i f j.0 num.0 j.2)
      (ap Activation (sym j.1.1) ∙ sym (call-meaning s.world (kind_of g s.world i f) c (depth_of g s.world i f) j.0 k))

  -- an arg gives its value to the param of its place
  pub claim-arg : (p q : Path) (x y f k a : ℕ) (v : Value) → node_of g q y ≡ Arg f k a → node_of g p x ≡ Param k
      → Tells g all s (Fired q y (v ∷ Activation p ∷ [])) → ValueClaim g s p x v
  claim-arg p q x y f k a v e d (i, num, out, ran, have) =
      let ky = kind-here g all args s reached q i y (Arg f k a) num e in
      let words = words-of i y (Arg f k a) (v ∷ Activation p ∷ []) ky have in
      let l = reached.activations.codes i num.0 in
      let line = arg-line g acc (activation_at s.world i).code l y f k a ky in
      let t = words.1.0.0 in
      let u = words.0.0 in
      let begun = (reached.words.suit i f t words.1.0.1).by_call line.1.0 line.1.1 in
      let same : p ≡ path_of s.world t = activation-eq p (path_of s.world t)
      (words.1.0.2 ∙ call-meaning s.world (kind_of g s.world i f) line.1.0 (depth_of g s.world i f) t line.1.1) in
      let there : IsNumber s.world p t = (begun.1, sym same) in
      let kx : kind_of g s.world t x ≡ Param k = kind-here g all args s reached p t x (Param k) there d in
      let come = carry-has g all args s reached rest valid t x u begun.1 (reached.outlets.arg_sent i y f k a x u t ran ky words.0.1 words.1.0.1 kx) in
      let called : kind_of g s.world i f ≡ Call (activation_at s.world t).code =
      subst (λ z. kind_of g s.world z f ≡ Call (activation_at s.world t).code) begun.2
      (subst (λ z. kind_of g s.world (activation_at s.world t).caller z ≡ Call (activation_at s.world t).code) begun.3
      (reached.activations.calls t begun.0 begun.1)) in
      let code : callee_of (its_code g s.world i) f ≡ (activation_at s.world t).code = ap callee_of_kind called in
      let deep : depth_of g s.world t x ≡ depth_of g s.world i a = subst (λ z. depth_at (code_of g z) x ≡ depth_of g s.world i a) code
      (arg-depth g acc (activation_at s.world i).code l y f k a x ky (subst (λ z. kind_at (code_of g z) x ≡ Param k) (sym code) kx)) in
      claim-inlet g all args s reached p x v t u (rw d refl) there come
      (words.0.2 ∙ same-meaning s.world (kind_of g s.world i a) (kind_of g s.world t x) (depth_of g s.world i a) (depth_of g s.world t x) u line.0
      (λ c z. cc) (sym deep))

  -- an activation with a path that isn't the root's has been called
  called-later : (f : ℕ) (p : Path) (j : ℕ) → path_of s.world j ≡ f ∷ p → 0 < j
  called-later f p zero h = let r = reached.activations.root_path in absurd (cc)
  called-later f p (suc j) h = omega arith

  -- a result gives its value to the ret of its place
  pub claim-result : (p : Path) (x y f k a : ℕ) (v : Value) → node_of g (f ∷ p) y ≡ Give k a → node_of g p x ≡ Ret f k
      → Tells g all s (Fired (f ∷ p) y (v ∷ [])) → ValueClaim g s p x v
  claim-result p x y f k a v e d (j, num, out, ran, have) =
      let ky = kind-here g all args s reached (f ∷ p) j y (Give k a) num e in
      let words = words-of j y (Give k a) (v ∷ []) ky have in
      let u = words.0.0 in
      let later = called-later f p j num.1 in
      let parts = cons-eq (activation_at s.world j).call f (path_of s.world (activation_at s.world j).caller) p
      (sym (reached.activations.paths j later num.0) ∙ num.1) in
      let before = reached.activations.callers j later num.0 in
      let stands : IsThere s.world (activation_at s.world j).caller = let t = num.0 in omega arith in
      let there : IsNumber s.world p (activation_at s.world j).caller = (stands, parts.1) in
      let kx : kind_of g s.world (activation_at s.world j).caller x ≡ Ret (activation_at s.world j).call k =
      kind-here g all args s reached p (activation_at s.world j).caller x (Ret f k) there d ∙ ap (λ z. Ret z k) (sym parts.0) in
      let come = carry-has g all args s reached rest valid (activation_at s.world j).caller x u stands
      (reached.outlets.result_sent j y k a x u ran ky words.0.1 later kx) in
      let code : callee_of (its_code g s.world (activation_at s.world j).caller) (activation_at s.world j).call ≡ (activation_at s.world j).code =
      ap callee_of_kind (reached.activations.calls j later num.0) in
      let deep : depth_of g s.world j a ≡ depth_of g s.world (activation_at s.world j).caller x =
      subst (λ z. depth_at (code_of g z) a ≡ depth_of g s.world (activation_at s.world j).caller x) code
      (ret-depth g acc (activation_at s.world (activation_at s.world j).caller).code
      (reached.activations.codes (activation_at s.world j).caller stands) x (activation_at s.world j).call k a y kx
      (subst (λ z. kind_at (code_of g z) y ≡ Give k a) (sym code) ky)) in
      let plain = give-line g acc (activation_at s.world j).code (reached.activations.codes j num.0) y k a ky in
      claim-inlet g all args s reached p x v (activation_at s.world j).caller u (rw d refl) there come
      (words.0.2 ∙ same-meaning s.world (kind_of g s.world j a) (kind_of g s.world (activation_at s.world j).caller x) (depth_of g s.world j a)
      (depth_of g s.world (activation_at s.world j).caller x) u plain (λ c z. cc) deep)

  -- ---- conds

  -- a cond enters the branch that its word chooses
  pub claim-cond : (q : Path) (c a y n w : ℕ) → node_of g q c ≡ Cond a y n → Tells g all s (Fired q c (Word w ∷ []))
      → Tells g all s (Entered q (chosen_branch (the_code g q) c w))
  claim-cond q c a y n w e (i, num, out, ran, have) =
      let k = kind-here g all args s reached q i c (Cond a y n) num e in
      let words = words-of i c (Cond a y n) (Word w ∷ []) k have in
      let l = reached.activations.codes i num.0 in
      let same : w ≡ words.0.0 = word-eq w words.0.0 (words.0.2 ∙ word-meaning s.world (kind_of g s.world i a) (depth_of g s.world i a) words.0.0
      (cond-line g acc (activation_at s.world i).code l c a y n k) (cond-depth g acc (activation_at s.world i).code l c a y n k)) in
      let entered = reached.outlets.cond_entered i c a y n words.0.0 ran k words.0.1 in (
        i,
        num,
        subst (λ z. has_entered s.world i (chosen_branch z c w) ≡ true) (sym (the-code g all args s reached q i num))
            (subst (λ z. has_entered s.world i (chosen_branch (its_code g s.world i) c z) ≡ true) (sym same) entered),
      )

  -- a switch gives its value to the `in` of its place in that branch
  pub claim-switch : (q : Path) (x y c k a w : ℕ) (v : Value) → node_of g q y ≡ Switch c k a → node_of g q x ≡ Enter k → block_of g q x ≡ chosen_branch
      (the_code g q) c w
      → Tells g all s (Fired q y (Word w ∷ v ∷ [])) → ValueClaim g s q x v
  claim-switch q x y c k a w v e d b (i, num, out, ran, have) =
      let ky = kind-here g all args s reached q i y (Switch c k a) num e in
      let words = words-of i y (Switch c k a) (Word w ∷ v ∷ []) ky have in
      let l = reached.activations.codes i num.0 in
      let line = switch-line g acc (activation_at s.world i).code l y c k a ky in
      let kc = line.0.3 in
      let p = line.0.0 in
      let test : test_of (its_code g s.world i) c ≡ p = ap test_of_kind kc in
      let first : HasWord g s.world i p (Word w) = subst (λ z. HasWord g s.world i z (Word w)) test words.0 in
      let t = first.0 in
      let u = words.1.0.0 in
      let same : w ≡ t = word-eq w t (first.2 ∙ word-meaning s.world (kind_of g s.world i p) (depth_of g s.world i p) t
      (cond-line g acc (activation_at s.world i).code l c p line.0.1 line.0.2 kc)
      (cond-depth g acc (activation_at s.world i).code l c p line.0.1 line.0.2 kc)) in
      let kx = kind-here g all args s reached q i x (Enter k) num d in
      let in-branch : block_at (its_code g s.world i) x ≡ chosen_branch (its_code g s.world i) c t =
      subst (λ z. block_at (its_code g s.world i) x ≡ chosen_branch (its_code g s.world i) c z) same
      (subst (λ z. block_at z x ≡ chosen_branch z c w) (the-code g all args s reached q i num) b) in
      let come = reached.outlets.switch_gave i y c k a x t u ran ky (subst (λ z. Has s i z t) (sym test) first.1) words.1.0.1 kx in-branch in
      let deep = enter-depth g acc (activation_at s.world i).code l x c k a y p line.0.1 line.0.2 t ky kc kx in-branch in
      claim-inlet g all args s reached q x v i u (rw d refl) num come
      (words.1.0.2 ∙ same-meaning s.world (kind_of g s.world i a) (kind_of g s.world i x) (depth_of g s.world i a) (depth_of g s.world i x) u line.1
      (λ f z. cc) (sym deep))

  -- an out gives its value to the merge of its place
  pub claim-leave : (q : Path) (x y c k a : ℕ) (v : Value) → node_of g q y ≡ Leave k a → slice_get (the_code g q).owners (block_of g q y) ≡ Some (Some c)
      → node_of g q x ≡ Merge c k → Tells g all s (Fired q y (v ∷ [])) → ValueClaim g s q x v
  claim-leave q x y c k a v e o d (i, num, out, ran, have) =
      let ky = kind-here g all args s reached q i y (Leave k a) num e in
      let words = words-of i y (Leave k a) (v ∷ []) ky have in
      let l = reached.activations.codes i num.0 in
      let u = words.0.0 in
      let kx = kind-here g all args s reached q i x (Merge c k) num d in
      let owner : slice_get (its_code g s.world i).owners (block_at (its_code g s.world i) y) ≡ Some (Some c) =
      subst (λ z. slice_get z.owners (block_at z y) ≡ Some (Some c)) (the-code g all args s reached q i num) o in
      let come = reached.outlets.leave_gave i y c k a x u ran ky words.0.1 owner kx in
      let deep = leave-depth g acc (activation_at s.world i).code l y k a c x ky owner kx in
      let plain = leave-line g acc (activation_at s.world i).code l y k a ky in
      claim-inlet g all args s reached q x v i u (rw d refl) num come
      (words.0.2 ∙ same-meaning s.world (kind_of g s.world i a) (kind_of g s.world i x) (depth_of g s.world i a) (depth_of g s.world i x) u plain
      (λ f z. cc) (sym deep))
