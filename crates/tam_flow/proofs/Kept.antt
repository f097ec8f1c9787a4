-- What a world keeps of firings and messages: what each node that fired did, with which words, and where each word and each entered block came from.
use Rattle.std.proofs.Common.{◌≡◌, ℕ, true, false, ◌==◌, List, [], ◌∷◌, Option, Some, None, slice_get, refl, sym, ap, ◌∙◌, subst, inl, inr, ◌⊎◌, ⊎_elim}
use Rattle.tam_msgs.specs.declared.message.Message.{Message}
use Rattle.tam_msgs.specs.declared.message.Message.TheVariants.{Word as Carry}
use Rattle.tam_msgs.specs.Messages.{outside}
use Rattle.tam_graph.specs.Graphs.{Graph, code_of, kind_at, block_at, operands_of}
use Rattle.tam_word.proofs.Members.{In}
use Rattle.tam_world.specs.Worlds.{World, ActivationState, or_activation, activation_at, its_code, word_of, has_entered, firing_of}
use Rattle.tam_flow.specs.Reached.{IsThere, kind_of}
use Rattle.tam_flow.proofs.ActivationLists.{word_among}
use Rattle.tam_flow.proofs.Deliveries.{some-below}
use Rattle.tam_flow.proofs.FiringReasons.{HaveThese}
use Rattle.tam_flow.proofs.Gifts.{gift, opens}
use Rattle.tam_flow.proofs.Givers.{is_received}
use Rattle.tam_flow.proofs.Onward.{Onward, have-later, SameFrame, sends-same}

-- node y of activation i got the word u by a firing; HasFired are the nodes that fired
pub record IsGift (g : Graph) (w : World) (HasFired : ℕ → ℕ → Type 0) (i y u : ℕ) : Type 0 where
  pub node : ℕ
  pub words : List ℕ
  pub fired : HasFired i node
  pub have : HaveThese w i (operands_of (its_code g w i) (kind_of g w i node)) words
  pub among : In y (gift (its_code g w i) node (kind_of g w i node) words).0
  pub word : u ≡ (gift (its_code g w i) node (kind_of g w i node) words).1

-- block b of activation i was entered by a firing
pub record IsEntered (g : Graph) (w : World) (HasFired : ℕ → ℕ → Type 0) (i b : ℕ) : Type 0 where
  pub node : ℕ
  pub words : List ℕ
  pub fired : HasFired i node
  pub have : HaveThese w i (operands_of (its_code g w i) (kind_of g w i node)) words
  pub among : In b (opens (its_code g w i) node (kind_of g w i node) words)

-- node x of activation i has done what it does with the words of its operands; WasSent are the messages that it sent
pub record HasDone (g : Graph) (w : World) (WasSent : Message → Type 0) (i x : ℕ) : Type 0 where
  pub words : List ℕ
  pub have : HaveThese w i (operands_of (its_code g w i) (kind_of g w i x)) words
  pub sent : (m : Message) → In m (firing_of g w i x (kind_of g w i x) words).sends → WasSent m
  pub gave : (y : ℕ) → In y (gift (its_code g w i) x (kind_of g w i x) words).0
      → word_of w i y ≡ (gift (its_code g w i) x (kind_of g w i x) words).1 ∷ []
  pub entered : (b : ℕ) → In b (opens (its_code g w i) x (kind_of g w i x) words) → has_entered w i b ≡ true

-- each node that fired did so in a block that is entered; each word came by a firing or by a message, each block but the body by a firing
pub record IsKept (g : Graph) (w : World) (HasFired : ℕ → ℕ → Type 0) (WasSentBy : ℕ → ℕ → Message → Type 0) (HasArrived : Message → Type 0) : Type 0 where
  pub there : (i x : ℕ) → HasFired i x → IsThere w i
  pub open_block : (i x : ℕ) → HasFired i x → has_entered w i (block_at (its_code g w i) x) ≡ true
  pub done : (i x : ℕ) → HasFired i x → HasDone g w (WasSentBy i x) i x
  pub sources : (i y u : ℕ) → word_of w i y ≡ u ∷ [] → IsGift g w HasFired i y u ⊎ (HasArrived (Carry i y u) × (is_received (kind_of g w i y) ≡ true))
  pub blocks : (i b : ℕ) → IsThere w i → has_entered w i b ≡ true → (b ≡ 0) ⊎ IsEntered g w HasFired i b

-- node x of activation i fired and sent the message
pub record IsWish (g : Graph) (w : World) (HasFired : ℕ → ℕ → Type 0) (m : Message) (i x : ℕ) : Type 0 where
  pub words : List ℕ
  pub fired : HasFired i x
  pub have : HaveThese w i (operands_of (its_code g w i) (kind_of g w i x)) words
  pub among : In m (firing_of g w i x (kind_of g w i x) words).sends

-- an activation whose node has a word is there
pub word-act : (w : World) (i x u : ℕ) → word_of w i x ≡ u ∷ [] → IsThere w i
word-act w i x u h = go (slice_get w.activations i) refl
  where
    go : (o : Option ActivationState) → slice_get w.activations i ≡ o → IsThere w i
    go None e = absurd (nil-word (subst (λ o. word_among (or_activation o).words x ≡ u ∷ []) e h))
      where
        nil-word : {l : List ℕ} → [] ≡ u ∷ l → ⊥
        nil-word r = cc
    go (Some a) e = some-below w.activations i e

-- the callers of activations are there, but the outside
abbrev pub CallersThere : World → Type 0
CallersThere w = (j : ℕ) → IsThere w j → ((activation_at w j).caller == outside) ≡ false → IsThere w (activation_at w j).caller

-- other words for what fired, was sent and has arrived
pub kept-same : (g : Graph) (w : World) (F G : ℕ → ℕ → Type 0) (S T : ℕ → ℕ → Message → Type 0) (A B : Message → Type 0)
    → ((i x : ℕ) → F i x → G i x) → ((i x : ℕ) → G i x → F i x)
    → ((i x : ℕ) (m : Message) → S i x m → T i x m) → ((m : Message) → A m → B m) → IsKept g w F S A → IsKept g w G T B
kept-same g w F G S T A B fg gf st ab kept = record {
  there = λ i x h. kept.there i x (gf i x h);
  open_block = λ i x h. kept.open_block i x (gf i x h);
  done = λ i x h. done i x (kept.done i x (gf i x h));
  sources = λ i y u h. ⊎_elim (λ k. inl (gave i y u k)) (λ k. inr (ab (Carry i y u) k.0, k.1)) (kept.sources i y u h);
  blocks = λ i b t h. ⊎_elim inl (λ k. inr (entered i b k)) (kept.blocks i b t h);
}
  where
    done : (i x : ℕ) → HasDone g w (S i x) i x → HasDone g w (T i x) i x
    done i x h = record { words = h.words; have = h.have; sent = λ m a. st i x m (h.sent m a); gave = h.gave; entered = h.entered }

    gave : (i y u : ℕ) → IsGift g w F i y u → IsGift g w G i y u
    gave i y u k = record { node = k.node; words = k.words; fired = fg i k.node k.fired; have = k.have; among = k.among; word = k.word }

    entered : (i b : ℕ) → IsEntered g w F i b → IsEntered g w G i b
    entered i b k = record { node = k.node; words = k.words; fired = fg i k.node k.fired; have = k.have; among = k.among }

-- a wish is one in other words for what fired
pub wish-same : (g : Graph) (w : World) (F G : ℕ → ℕ → Type 0) → ((i x : ℕ) → F i x → G i x) → (m : Message) (i x : ℕ) → IsWish g w F m i x → IsWish g w G m i x
wish-same g w F G more m i x h = record { words = h.words; fired = more i x h.fired; have = h.have; among = h.among }

module _ (g : Graph) (w v : World) (on : Onward w v) where
  -- a gift stays one
  pub gift-later : (F G : ℕ → ℕ → Type 0) → ((i x : ℕ) → F i x → G i x) → (i y u : ℕ) → IsThere w i → IsGift g w F i y u → IsGift g v G i y u
  gift-later F G more i y u t h = record {
    node = h.node;
    words = h.words;
    fired = more i h.node h.fired;
    have = subst (λ n. HaveThese v i (operands_of (code_of g n) (kind_at (code_of g n) h.node)) h.words) (sym (on.code i t))
        (have-later w v on i (operands_of (its_code g w i) (kind_of g w i h.node)) h.words h.have);
    among = subst (λ n. In y (gift (code_of g n) h.node (kind_at (code_of g n) h.node) h.words).0) (sym (on.code i t)) h.among;
    word = subst (λ n. u ≡ (gift (code_of g n) h.node (kind_at (code_of g n) h.node) h.words).1) (sym (on.code i t)) h.word;
  }

  -- a block that was entered by a firing stays so
  pub entered-later : (F G : ℕ → ℕ → Type 0) → ((i x : ℕ) → F i x → G i x) → (i b : ℕ) → IsThere w i → IsEntered g w F i b → IsEntered g v G i b
  entered-later F G more i b t h = record {
    node = h.node;
    words = h.words;
    fired = more i h.node h.fired;
    have = subst (λ n. HaveThese v i (operands_of (code_of g n) (kind_at (code_of g n) h.node)) h.words) (sym (on.code i t))
        (have-later w v on i (operands_of (its_code g w i) (kind_of g w i h.node)) h.words h.have);
    among = subst (λ n. In b (opens (code_of g n) h.node (kind_at (code_of g n) h.node) h.words)) (sym (on.code i t)) h.among;
  }

  -- a received node stays one
  pub received-later : (i y : ℕ) → IsThere w i → is_received (kind_of g w i y) ≡ true → is_received (kind_of g v i y) ≡ true
  received-later i y t h = subst (λ n. is_received (kind_at (code_of g n) y) ≡ true) (sym (on.code i t)) h

  -- an open block stays open
  pub open-later : (i x : ℕ) → IsThere w i → has_entered w i (block_at (its_code g w i) x) ≡ true → has_entered v i (block_at (its_code g v i) x) ≡ true
  open-later i x t h = subst (λ n. has_entered v i (block_at (code_of g n) x) ≡ true) (sym (on.code i t)) (on.blocks i (block_at (its_code g w i) x) h)

  module _ (callers : CallersThere w) where
    -- the frames are the same
    pub frame-later : (i : ℕ) → IsThere w i → SameFrame w v i
    frame-later i t = record {
      code = on.code i t;
      caller = on.caller i t;
      call = on.call i t;
      caller_code = λ e. on.code (activation_at w i).caller (callers i t e);
    }

    -- what a node sends with these words it would send later
    pub sends-later : (i x : ℕ) (vs : List ℕ) → IsThere w i
        → (firing_of g v i x (kind_of g v i x) vs).sends ≡ (firing_of g w i x (kind_of g w i x) vs).sends
    sends-later i x vs t =
        sends-same g w v i (frame-later i t) x (kind_of g v i x) vs
        ∙ ap (λ n. (firing_of g w i x (kind_at (code_of g n) x) vs).sends) (on.code i t)

    -- what a node did, it has done later
    pub done-later : (S T : Message → Type 0) → ((m : Message) → S m → T m) → (i x : ℕ) → IsThere w i → HasDone g w S i x → HasDone g v T i x
    done-later S T more i x t h = record {
      words = h.words;
      have = subst (λ n. HaveThese v i (operands_of (code_of g n) (kind_at (code_of g n) x)) h.words) (sym (on.code i t))
          (have-later w v on i (operands_of (its_code g w i) (kind_of g w i x)) h.words h.have);
      sent = λ m a. more m (h.sent m (subst (λ l. In m l) (sends-later i x h.words t) a));
      gave = subst (λ n. (y : ℕ) → In y (gift (code_of g n) x (kind_at (code_of g n) x) h.words).0
          → word_of v i y ≡ (gift (code_of g n) x (kind_at (code_of g n) x) h.words).1 ∷ []) (sym (on.code i t))
          (λ y a. on.words i y (gift (its_code g w i) x (kind_of g w i x) h.words).1 (h.gave y a));
      entered = subst (λ n. (b : ℕ) → In b (opens (code_of g n) x (kind_at (code_of g n) x) h.words) → has_entered v i b ≡ true) (sym (on.code i t))
          (λ b a. on.blocks i b (h.entered b a));
    }

    -- a wish stays one
    pub wish-later : (F G : ℕ → ℕ → Type 0) → ((i x : ℕ) → F i x → G i x) → (m : Message) (i x : ℕ) → IsThere w i → IsWish g w F m i x → IsWish g v G m i x
    wish-later F G more m i x t h = record {
      words = h.words;
      fired = more i x h.fired;
      have = subst (λ n. HaveThese v i (operands_of (code_of g n) (kind_at (code_of g n) x)) h.words) (sym (on.code i t))
          (have-later w v on i (operands_of (its_code g w i) (kind_of g w i x)) h.words h.have);
      among = subst (λ l. In m l) (sym (sends-later i x h.words t)) h.among;
    }

    -- where nothing fires besides, new words came by messages and new blocks are bodies, a world keeps what it kept
    pub kept-later : (F G : ℕ → ℕ → Type 0) (S T : ℕ → ℕ → Message → Type 0) (A B : Message → Type 0)
        → ((i x : ℕ) → F i x → G i x) → ((i x : ℕ) → G i x → F i x)
        → ((i x : ℕ) (m : Message) → S i x m → T i x m) → ((m : Message) → A m → B m)
        → ((i y u : ℕ) → word_of v i y ≡ u ∷ [] → (word_of w i y ≡ u ∷ []) ⊎ (B (Carry i y u) × (is_received (kind_of g v i y) ≡ true)))
        → ((i b : ℕ) → IsThere v i → has_entered v i b ≡ true → (IsThere w i × (has_entered w i b ≡ true)) ⊎ (b ≡ 0))
        → IsKept g w F S A → IsKept g v G T B
    kept-later F G S T A B fg gf st ab new_word new_block kept = record {
      there = λ i x h. on.there i (kept.there i x (gf i x h));
      open_block = λ i x h. open-later i x (kept.there i x (gf i x h)) (kept.open_block i x (gf i x h));
      done = λ i x h. done-later (S i x) (T i x) (st i x) i x (kept.there i x (gf i x h)) (kept.done i x (gf i x h));
      sources = λ i y u h. ⊎_elim (λ k. ⊎_elim (λ a. inl (gift-later F G fg i y u (kept.there i a.node a.fired) a))
          (λ a. inr (ab (Carry i y u) a.0, received-later i y (word-act w i y u k) a.1)) (kept.sources i y u k)) inr (new_word i y u h);
      blocks = λ i b t h. ⊎_elim (λ k. ⊎_elim inl (λ a. inr (entered-later F G fg i b k.0 a)) (kept.blocks i b k.0 k.1)) inl (new_block i b t h);
    }
