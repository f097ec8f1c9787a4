-- The skips of a thread: the connectors of a cond begin with one, of the threads that stand for the branch not chosen; no other thread has any.
use Rattle.std.proofs.Common.{◌≡◌, ℕ, ◌<◌, true, List, [], ◌∷◌, map, filter, length, refl, sym, ap, subst, ◌∙◌, inl, inr}
use Rattle.std.proofs.Common.{true≢false}
use Rattle.tam_word.proofs.Members.{In, Distinct, in-map, map-in, in-filter}
use Rattle.tam_graph.specs.declared.kind.Kind.{Kind}
use Rattle.tam_graph.specs.declared.kind.Kind.TheVariants.{Cond, Switch as Choose}
use Rattle.tam_graph.specs.Graphs.{Code, Graph, code_of, kind_at, block_at, owner_of, node_in, is_enter}
use Rattle.tam_graph.specs.Written.{IsWritten}
use Rattle.tam_graph.specs.Accepted.{IsAccepted}
use Rattle.tam_graph.proofs.BranchBlocks.{branches-below}
use Rattle.tam_split.specs.Blocks.{block_graph}
use Rattle.tam_split.specs.Partitions.{Parts}
use Rattle.tl0_code.specs.declared.instr.Instr.{Instr}
use Rattle.tl0_code.specs.declared.instr.Instr.TheVariants.{Skip}
use Rattle.tl0_code.specs.ThreadCode.{is_plain}
use Rattle.tl0_keep.specs.Compiled.{skipped_at, is_choosing, yes_of, no_of, block_entry, switch_into, entry_classes, parts_at}
use Rattle.tl0_keep.proofs.code.ThreadKinds.{ThreadKind, Entry, Class, Then_of, Else_of, IsThread, number_of_thread, thread_for, then_thread}
use Rattle.tl0_keep.proofs.code.ThreadKinds.{else_thread, then_block, else_block, AreParts}
use Rattle.tl0_keep.proofs.code.DistinctLists.{distinct-map}
use Rattle.tl0_keep.proofs.code.BranchOwning.{branches-owned}
use Rattle.tl0_keep.proofs.code.BlockTree.{Within, Itself, Inside}
use Rattle.tl0_keep.proofs.code.Facts.{plain-forks, plain-gifts}
use Rattle.tl0_keep.proofs.code.ClassInstrs.{class-plain}
use Rattle.tl0_keep.proofs.code.ThreadNumbers.{number-one}
use Rattle.tl0_keep.proofs.owed.Skipped.{home, skipped_threads, length-mapped, length-skipped, its-text, IsSide, skipped-home, skipped-once}
use Rattle.tl0_keep.proofs.owed.SkippedAll.{RunsHere, skipped-all, then-here, else-here}
use Rattle.tl0_keep.proofs.owed.Tables.{HaveNoSkip}
use Rattle.tl0_keep.proofs.owed.Owes.{Beneath, The_same, Deeper, Unchosen}

-- instructions that stay where skips are left out
plain-each : (is : List Instr) → filter is_plain is ≡ is → HaveNoSkip is
plain-each is e i m = (in-filter is_plain i is (subst (In i) (sym e) m)).1

-- a block inside another, both ways
beneath-within : (codes : ℕ) (c : Code) (written : IsWritten codes c) (u v : ℕ) → Beneath c u v → Within codes c written u v
beneath-within codes c written u v The_same = Itself
beneath-within codes c written u v (Deeper {d = d} e b) = Inside e (beneath-within codes c written u (block_at c d) b)

within-beneath : (codes : ℕ) (c : Code) (written : IsWritten codes c) (u v : ℕ) → Within codes c written u v → Beneath c u v
within-beneath codes c written u v Itself = The_same
within-beneath codes c written u v (Inside {d = d} e w) = Deeper e (within-beneath codes c written u (block_at c d) w)

-- thread u is skipped where block b isn't chosen
pub record IsSkipped (c : Code) (ps : List Parts) (b u : ℕ) : Type 0 where
  pub kind : ThreadKind
  pub thread : IsThread c ps kind
  pub number : number_of_thread c ps kind ≡ u
  pub beneath : Beneath c b (home c kind)

-- a thread that begins with a skip: of the threads that run for a block which it doesn't choose, and inside it
pub record OneSkip (c : Code) (ps : List Parts) (t : ThreadKind) (is : List Instr) : Type 0 where
  pub block : ℕ
  pub skips : List ℕ
  pub rest : List Instr
  pub begins : is ≡ Skip (length skips) ∷ rest
  pub none : HaveNoSkip rest
  pub unchosen : Unchosen c t block
  pub alone : (v : ℕ) → Unchosen c t v → v ≡ block
  pub once : Distinct skips
  pub each : (u : ℕ) → In u skips → IsSkipped c ps block u
  pub all : (u : ℕ) → IsSkipped c ps block u → In u skips

-- the instructions of a thread have no skip and it chooses no block, or they begin with one
pub data Shape (c : Code) (ps : List Parts) (t : ThreadKind) (is : List Instr) : Type 0 where
  No_skip : HaveNoSkip is → ((v : ℕ) → Unchosen c t v → ⊥) → Shape c ps t is
  One_skip : OneSkip c ps t is → Shape c ps t is

else-one : (x y : ℕ) → Else_of x ≡ Else_of y → x ≡ y
else-one x y e = cc

then-one : (x y : ℕ) → Then_of x ≡ Then_of y → x ≡ y
then-one x y e = cc

cond-switch : {p y z e k a : ℕ} → Cond p y z ≡ Choose e k a → ⊥
cond-switch q = cc

-- kinds of threads differ
entry-then : {x : ℕ} → Entry ≡ Then_of x → ⊥
entry-then e = cc

entry-else : {x : ℕ} → Entry ≡ Else_of x → ⊥
entry-else e = cc

class-then : {b k x : ℕ} → Class b k ≡ Then_of x → ⊥
class-then e = cc

class-else : {b k x : ℕ} → Class b k ≡ Else_of x → ⊥
class-else e = cc

then-else : {x y : ℕ} → Then_of x ≡ Else_of y → ⊥
then-else e = cc

-- the block that the connector of a cond doesn't choose
then-alone : (c : Code) (x p y z : ℕ) → kind_at c x ≡ Cond p y z → (v : ℕ) → Unchosen c (Then_of x) v → v ≡ z
then-alone c x p y z k v (w, q, u, inl (e, j)) = other (sym (ap (kind_at c) (then-one x w e)) ∙ k) j
  where
    other : kind_at c w ≡ Cond p y z → kind_at c w ≡ Cond q u v → v ≡ z
    other a b = let s : Cond q u v ≡ Cond p y z = sym b ∙ a in cc
then-alone c x p y z k v (w, q, u, inr (e, j)) = absurd (then-else e)

else-alone : (c : Code) (x p y z : ℕ) → kind_at c x ≡ Cond p y z → (v : ℕ) → Unchosen c (Else_of x) v → v ≡ y
else-alone c x p y z k v (w, q, u, inl (e, j)) = absurd (then-else (sym e))
else-alone c x p y z k v (w, q, u, inr (e, j)) = other (sym (ap (kind_at c) (else-one x w e)) ∙ k) j
  where
    other : kind_at c w ≡ Cond p y z → kind_at c w ≡ Cond q v u → v ≡ y
    other a b = let s : Cond q v u ≡ Cond p y z = sym b ∙ a in cc

-- the connectors of a switch choose no block
then-switch : (c : Code) (x d j a : ℕ) → kind_at c x ≡ Choose d j a → (v : ℕ) → Unchosen c (Then_of x) v → ⊥
then-switch c x d j a k v (w, q, u, inl (e, i)) = cond-switch (sym i ∙ (sym (ap (kind_at c) (then-one x w e)) ∙ k))
then-switch c x d j a k v (w, q, u, inr (e, i)) = then-else e

else-switch : (c : Code) (x d j a : ℕ) → kind_at c x ≡ Choose d j a → (v : ℕ) → Unchosen c (Else_of x) v → ⊥
else-switch c x d j a k v (w, q, u, inl (e, i)) = then-else (sym e)
else-switch c x d j a k v (w, q, u, inr (e, i)) = cond-switch (sym i ∙ (sym (ap (kind_at c) (else-one x w e)) ∙ k))

-- nor does thread 0, or a class
entry-none : (c : Code) (v : ℕ) → Unchosen c Entry v → ⊥
entry-none c v (w, q, u, inl (e, i)) = entry-then e
entry-none c v (w, q, u, inr (e, i)) = entry-else e

class-none : (c : Code) (b k v : ℕ) → Unchosen c (Class b k) v → ⊥
class-none c b k v (w, q, u, inl (e, i)) = class-then e
class-none c b k v (w, q, u, inr (e, i)) = class-else e

module _ (g : Graph) (accepted : IsAccepted g) (n : ℕ) (there : n < length g.codes) (ps : List Parts) (parts : AreParts (code_of g n) ps) where
  -- the forks of a block's entry classes
  no-forks : (b : ℕ) → HaveNoSkip (block_entry (code_of g n) ps b)
  no-forks b = plain-each (block_entry (code_of g n) ps b) (plain-forks ps b (entry_classes (block_graph (code_of g n) b) (parts_at ps b)))

  -- what a connector of a switch does
  no-gifts : (a k b : ℕ) → HaveNoSkip (switch_into (code_of g n) ps a k b)
  no-gifts a k b = plain-each (switch_into (code_of g n) ps a k b) (plain-gifts (code_of g n) ps a (node_in (code_of g n) b (is_enter k)))

  -- a skip
  skips : (side : ℕ → ThreadKind) (t : ThreadKind) (x b into : ℕ) → x < length (code_of g n).nodes → is_choosing (kind_at (code_of g n) x) ≡ true
      → ((e k a : ℕ) → kind_at (code_of g n) x ≡ Choose e k a → ⊥) → owner_of (code_of g n) b ≡ x ∷ [] → b < length (code_of g n).owners
      → IsSide g accepted n there ps side x b → 0 < b
      → ((u : ThreadKind) → IsThread (code_of g n) ps u → home (code_of g n) u ≡ b → RunsHere g accepted n there ps side x b u)
      → Unchosen (code_of g n) t b → ((v : ℕ) → Unchosen (code_of g n) t v → v ≡ b)
      → Shape (code_of g n) ps t (Skip (skipped_at (code_of g n) ps x b) ∷ block_entry (code_of g n) ps into)
  skips side t x b into l choosing no_switch owner low is pos here unchosen alone =
      let list = skipped_threads side (code_of g n) ps x b in
      let homes = skipped-home g accepted n there ps side x b choosing no_switch owner low is in
      One_skip (record {
        block = b;
        skips = map (number_of_thread (code_of g n) ps) list;
        rest = block_entry (code_of g n) ps into;
        begins = ap (λ y. Skip y ∷ block_entry (code_of g n) ps into) (sym (length-mapped (number_of_thread (code_of g n) ps) list
            ∙ length-skipped (code_of g n) ps side x b));
        none = no-forks into;
        unchosen = unchosen;
        alone = alone;
        once = distinct-map (number_of_thread (code_of g n) ps) list (skipped-once g accepted n there ps side x b choosing no_switch owner low is)
            (λ u v i j e. number-one g (code_of g n) ps parts.blocks u v (homes u i).0 (homes v j).0 e);
        each = λ u i. (let r = in-map (number_of_thread (code_of g n) ps) u list i in let h = homes r.0 r.1 in record {
          kind = r.0;
          thread = h.0;
          number = r.2;
          beneath = within-beneath (length g.codes) (code_of g n) (its-text g accepted n there ps) b (home (code_of g n) r.0) h.1;
        });
        all = λ u s. subst (λ v. In v (map (number_of_thread (code_of g n) ps) list)) s.number
            (map-in (number_of_thread (code_of g n) ps) s.kind list (skipped-all g accepted n there ps side x b low pos here s.kind s.thread
            (beneath-within (length g.codes) (code_of g n) (its-text g accepted n there ps) b (home (code_of g n) s.kind) s.beneath)));
      })

  -- the shape of each thread
  pub shape : (t : ThreadKind) → IsThread (code_of g n) ps t → Shape (code_of g n) ps t (thread_for g (code_of g n) ps t).instrs
  shape Entry h = No_skip (no-forks 0) (entry-none (code_of g n))
  shape (Class b k) h = No_skip (plain-each _ (class-plain g (code_of g n) ps b k)) (class-none (code_of g n) b k)
  shape (Then_of x) h = go (kind_at (code_of g n) x) refl h.1
    where
      go : (k : Kind) → kind_at (code_of g n) x ≡ k → is_choosing k ≡ true → Shape (code_of g n) ps (Then_of x) (then_thread (code_of g n) ps x k).instrs
      go (Cond p y z) e q =
          let o = branches-owned (length g.codes) (code_of g n) (its-text g accepted n there ps) x p y z e in
          let w = branches-below (length g.codes) (code_of g n) (its-text g accepted n there ps) x p y z h.0 e in
          skips Else_of (Then_of x) x z y h.0 (ap is_choosing e) (λ d k a r. cond-switch (sym e ∙ r)) o.1 w.1 (record {
            one = else-one;
            in_block = λ v. refl;
            is_thread = λ v l c. (l, c);
            of_cond = ap (else_block (code_of g n)) e;
            of_switch = λ v k a r. ap (else_block (code_of g n)) r ∙ ap no_of e;
          }) o.4 (else-here g accepted n there ps x p y z e) (x, p, y, inl (refl, e)) (then-alone (code_of g n) x p y z e)
      go (Choose d k a) e q = No_skip (no-gifts a k (yes_of (kind_at (code_of g n) d))) (then-switch (code_of g n) x d k a e)
      go k e q = absurd (true≢false (sym q))
  shape (Else_of x) h = go (kind_at (code_of g n) x) refl h.1
    where
      go : (k : Kind) → kind_at (code_of g n) x ≡ k → is_choosing k ≡ true → Shape (code_of g n) ps (Else_of x) (else_thread (code_of g n) ps x k).instrs
      go (Cond p y z) e q =
          let o = branches-owned (length g.codes) (code_of g n) (its-text g accepted n there ps) x p y z e in
          let w = branches-below (length g.codes) (code_of g n) (its-text g accepted n there ps) x p y z h.0 e in
          skips Then_of (Else_of x) x y z h.0 (ap is_choosing e) (λ d k a r. cond-switch (sym e ∙ r)) o.0 w.0 (record {
            one = then-one;
            in_block = λ v. refl;
            is_thread = λ v l c. (l, c);
            of_cond = ap (then_block (code_of g n)) e;
            of_switch = λ v k a r. ap (then_block (code_of g n)) r ∙ ap yes_of e;
          }) o.3 (then-here g accepted n there ps x p y z e) (x, p, z, inr (refl, e)) (else-alone (code_of g n) x p y z e)
      go (Choose d k a) e q = No_skip (no-gifts a k (no_of (kind_at (code_of g n) d))) (else-switch (code_of g n) x d k a e)
      go k e q = absurd (true≢false (sym q))
