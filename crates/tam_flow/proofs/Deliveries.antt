-- The delivery of a message that has its reason leaves a world that has its reasons, and sends messages that have theirs; a fault has its reason too.
use Rattle.std.proofs.Common.{◌≡◌, ℕ, zero, suc, ◌^◌, ◌<◌, ◌≤◌, Bool, true, false, ◌==◌, List, [], ◌∷◌, ◌++◌, Option, Some, None, length, slice_get, unwrap_or}
use Rattle.std.proofs.Common.{refl, sym, ap, ◌∙◌, arith, tests, subst, inl, inr}
use Rattle.std.specs.List.{AllByRecursion}
use Rattle.std.proofs.lemmas.List.{length-append}
use Rattle.tam_graph.specs.declared.kind.Kind.{Kind}
use Rattle.tam_graph.specs.declared.kind.Kind.TheVariants.{Call, Alloc, Fetch}
use Rattle.tam_msgs.specs.declared.message.Message.{Message}
use Rattle.tam_msgs.specs.declared.message.Message.TheVariants.{Word as Carry, Frame as Begin, Cells as Make, Fetch as Ask_cell, Store as Put_cell}
use Rattle.tam_msgs.specs.Messages.{outside, site, answers}
use Rattle.tam_istr.specs.Cells.{Cell, Empty, Filled, in_array, fetch_of, store_of}
use Rattle.tam_graph.specs.Graphs.{Graph, code_of}
use Rattle.tam_fire.specs.FiringRules.{Path, Value, Word, Activation, Array, Val, Fired, Holds, IsAccess, node_of, code_at, call_answers, alloc_answers}
use Rattle.tam_fire.specs.FiringRules.{fetch_answers}
use Rattle.tam_fire.proofs.Following.{holds-by}
use Rattle.tam_world.specs.Worlds.{World, Effect, changes, Delivery, Went, Printed, Faulted, Fault, Second_store, Outside_cells, accessed, delivered, got}
use Rattle.tam_world.specs.Worlds.{begun}
use Rattle.tam_flow.specs.Told.{IsNumber}
use Rattle.tam_flow.specs.Reached.{cells_at}
use Rattle.tam_word.proofs.Each.{all-append, all-more, all-map}
use Rattle.tam_flow.proofs.Growing.{Grows, grows-same, grows-got, with_begun, grows-begun, path-begun, grows-arrays, grows-made}
use Rattle.tam_flow.proofs.Justified.{IsArray, StandsFor, IsValue, IsAsked, IsPut, IsMade, IsMessage, IsSoundWorld, depth_in, number-later, messages-later}
use Rattle.tam_flow.proofs.Changes.{sound-got, sound-begun}
use Rattle.tam_flow.proofs.CellChanges.{none-some, with_made, new-array, sound-made, with_changed_cell, sound-cell}

-- ---- what an event leaves

-- what an event changes and sends has its reasons
pub record IsSoundEffect (g : Graph) (args : List ℕ) (w : World) (e : Effect) : Type 0 where
  pub world : IsSoundWorld g args e.world
  pub grows : Grows w e.world
  pub sends : AllByRecursion (IsMessage g args e.world) e.sends

-- an access is outside the array at its site
pub record IsOutside (g : Graph) (args : List ℕ) (t j n : ℕ) : Type 0 where
  pub q : Path
  pub x : ℕ
  pub p : Path
  pub z : ℕ
  pub more : List Value
  pub there : code_at g q < length g.codes
  pub accesses : IsAccess (node_of g q x)
  pub here : t ≡ site (code_at g q) x
  pub fired : Holds g args (Fired q x (Array p z ∷ Word j ∷ more))
  pub made : Holds g args (Fired p z (Word n ∷ []))
  pub beyond : n ≤ j

-- the reason of a fault: an access outside, or two stores into one cell
abbrev pub IsFault : Graph → List ℕ → World → Fault → Type 0
IsFault g args w (Outside_cells t j n) = IsOutside g args t j n
IsFault g args w (Second_store s t) = (a j u v : ℕ) × IsPut g args w a j u s × IsPut g args w a j v t

-- what comes of a delivery has its reason
abbrev pub IsSoundDelivery : Graph → List ℕ → World → Delivery → Type 0
IsSoundDelivery g args w (Went e) = IsSoundEffect g args w e
IsSoundDelivery g args w (Printed k v) = Unit {0}
IsSoundDelivery g args w (Faulted f) = IsFault g args w f

-- ---- what an array is

-- one number names one alloc
pub array-path : (w : World) (p q : Path) (y z a : ℕ) → IsArray w p y a → IsArray w q z a → p ≡ q
array-path w p q y z a h k = sym h.number.1 ∙ k.number.1

-- an array of one path is of one alloc
pub array-alloc : (w : World) (p q : Path) (y z a : ℕ) → IsArray w p y a → IsArray w q z a → y ≡ z
array-alloc w p q y z a h k = sym h.alloc ∙ k.alloc

-- a call is no fetch
kinds-differ : (k : Kind) (c : ℕ) → k ≡ Call c → (b d : ℕ) → k ≡ Fetch b d → ⊥
kinds-differ k c e b d f = cc

-- and no alloc
alloc-no_call : (k : Kind) (c : ℕ) → k ≡ Call c → (b : ℕ) → k ≡ Alloc b → ⊥
alloc-no_call k c e b f = cc

-- equal depths above 0 are one more than equal depths
same-depth : (a b c d : ℕ) → a ≡ suc b → c ≡ suc d → a ≡ c → d ≡ b
same-depth a b c d e f h = omega arith

-- a place that isn't there is past the end, one that is there is below it
pub none-past : {X : Type 0} (xs : List X) (n : ℕ) → slice_get xs n ≡ None → length xs ≤ n
none-past [] n e = omega arith
none-past (x ∷ xs) zero e = absurd (none-some (sym e))
none-past (x ∷ xs) (suc n) e = let l = none-past xs n e in omega arith

-- a place where something stands is below the length
pub some-below : {X : Type 0} (xs : List X) (n : ℕ) {x : X} → slice_get xs n ≡ Some x → n < length xs
some-below [] n e = absurd (none-some e)
some-below (x ∷ xs) zero e = omega arith
some-below (x ∷ xs) (suc n) e = let l = some-below xs n e in omega arith

-- what is there isn't missing
pub there-some : {X : Type 0} (xs : List X) (n : ℕ) → n < length xs → slice_get xs n ≡ None → ⊥
there-some [] n l e = absurd (omega arith)
there-some (x ∷ xs) zero l e = none-some (sym e)
there-some (x ∷ xs) (suc n) l e = there-some xs n (omega arith) e

module _ (g : Graph) (args : List ℕ) where
  -- what an alloc has fired with, by any name of its array
  pub made-as : (w : World) (p : Path) (z a n : ℕ) → IsArray w p z a → IsMade g args w a n → Holds g args (Fired p z (Word n ∷ []))
  made-as w p z a n h made =
      subst (λ r. Holds g args (Fired r z (Word n ∷ []))) (array-path w made.p p made.z z a made.array h)
      (subst (λ y. Holds g args (Fired made.p y (Word n ∷ []))) (array-alloc w made.p p made.z z a made.array h) made.fired)

  -- a cell's word for a fetch that asked for it
  pub answered : (w : World) (a j f x u t : ℕ) → IsSoundWorld g args w → j < length (cells_at w a) → IsPut g args w a j u t → IsAsked g args w a j f x
      → IsMessage g args w (Carry f x u)
  answered w a j f x u t sound inside by asked = inr
      (asked.q, asked.number, record { value = by.2.value; means = inr (λ c e. kinds-differ _ c e asked.b asked.c asked.fetches, stands); holds = holds })
    where
      path : by.2.p ≡ asked.p
      path = array-path w by.2.p asked.p by.2.z asked.z a by.2.array asked.array

      alloc : by.2.z ≡ asked.z
      alloc = array-alloc w by.2.p asked.p by.2.z asked.z a by.2.array asked.array

      fired : Holds g args (Fired by.2.q by.1 (Array asked.p asked.z ∷ Word j ∷ by.2.value ∷ []))
      fired = subst (λ r. Holds g args (Fired by.2.q by.1 (Array r asked.z ∷ Word j ∷ by.2.value ∷ []))) path
          (subst (λ r. Holds g args (Fired by.2.q by.1 (Array by.2.p r ∷ Word j ∷ by.2.value ∷ []))) alloc by.2.fired)

      stands : StandsFor g w (depth_in g asked.q x) u by.2.value
      stands = subst (λ d. StandsFor g w d u by.2.value)
          (same-depth _ _ _ _ asked.depth by.2.depth (sym (ap (λ r. depth_in g r by.2.z) path ∙ ap (λ r. depth_in g asked.p r) alloc))) by.2.stands

      made : Holds g args (Fired asked.p asked.z (Word (length (cells_at w a)) ∷ []))
      made = made-as w asked.p asked.z a (length (cells_at w a)) asked.array (sound.made a asked.array.below)

      holds : Holds g args (Val asked.q x by.2.value)
      holds = holds-by g args (fetch_answers {p = asked.p} {z = asked.z} {i = j} {n = length
          (cells_at w a)} {v = by.2.value} asked.fetches by.2.stores inside) (asked.fired, (fired, (made, tt)))

  -- a number below the number of activations isn't the outside's
  pub not-outside : (f n : ℕ) → f < n → n < 2 ^ 32 → (f == outside) ≡ false
  not-outside f n l few = go (f == outside) refl
    where
      go : (b : Bool) → (f == outside) ≡ b → (f == outside) ≡ false
      go true e = let same : f ≡ 4294967295 = grind (arith, tests) in absurd (omega arith)
      go false e = e

  module _ (w : World) (sound : IsSoundWorld g args w) where
    -- the code of an activation is there
    pub code-there : (f : ℕ) (q : Path) → IsNumber w q f → code_at g q < length g.codes
    code-there f q h = subst (λ p. code_at g p < length g.codes) h.1 (subst (λ n. n < length g.codes) (sym (sound.path_codes f h.0)) (sound.codes f h.0))

    -- a word
    deliver-carry : (f x u : ℕ) → IsMessage g args w (Carry f x u) → IsSoundDelivery g args w (delivered w (Carry f x u))
    deliver-carry f x u h = go (f == outside) refl h
      where
        give : (q : Path) × IsNumber w q f × IsValue g args w q x u → IsSoundEffect g args w (changes (got w f x u))
        give k = record {
          world = sound-got g args w f x u sound (subst (λ q. IsValue g args w q x u) (sym k.1.1) k.2);
          grows = grows-got w f x u;
          sends = tt;
        }

        go : (b : Bool) → (f == outside) ≡ b → IsMessage g args w (Carry f x u) → IsSoundDelivery g args w (delivered w (Carry f x u))
        go true e k = rw (delivered, e) tt
        go false e (inl k) = absurd (true-false (sym k ∙ e))
          where
            true-false : true ≡ false → ⊥
            true-false r = cc
        go false e (inr k) = rw (delivered, e) (give k)

    -- a wish for an activation
    deliver-begin : length w.activations < 2 ^ 32 → ((c : ℕ) → c < length g.codes → 0 < length (code_of g c).owners)
        → (c f x : ℕ) → IsMessage g args w (Begin c f x) → IsSoundDelivery g args w (delivered w (Begin c f x))
    deliver-begin few opened c f x h = record {
      world = sound-begun g args w c f x q sound inside h.1 h.2 h.3 (opened c h.3) h.4;
      grows = grows-begun w c f x;
      sends = (
        inr (
          q,
          number-later g args w (with_begun w c f x)
              (grows-begun w c f x) q f h.1,
          record {
            value = Activation (x ∷ q);
            means = inl (c, h.2, new, refl);
            holds = holds-by g args (call_answers h.2)
                (h.4, tt);
          },
        ),
        tt,
      );
    }
      where
        q : Path
        q = h.0

        inside : (f == outside) ≡ false
        inside = not-outside f (length w.activations) h.1.0 few

        new : IsNumber (with_begun w c f x) (x ∷ q) (length w.activations)
        new = (omega (arith, length-append w.activations (begun c f x ∷ [])), path-begun w c f x inside ∙ ap (λ p. x ∷ p) h.1.1)

    -- a wish for an array
    deliver-make : (n f x : ℕ) → IsMessage g args w (Make n f x) → IsSoundDelivery g args w (delivered w (Make n f x))
    deliver-make n f x h = record {
      world = sound-made g args w n f x h.1 h.0 sound h.3 h.4 h.6;
      grows = grows;
      sends = (
        inr (
          h.0,
          number-later g args w
              (with_made g args w n f x) grows h.0 f h.3,
          record {
            value = Array h.0 x;
            means = inr
                (λ c e. alloc-no_call _ c e h.1 h.4, stands);
            holds = holds-by g args (alloc_answers h.4) (h.6, tt);
          },
        ),
        tt,
      );
    }
      where
        grows : Grows w (with_made g args w n f x)
        grows = grows-made w (with_made g args w n f x) (f, x) refl refl

        stands : StandsFor g (with_made g args w n f x) (depth_in g h.0 x) (length w.arrays) (Array h.0 x)
        stands = subst (λ d. StandsFor g (with_made g args w n f x) d (length w.arrays) (Array h.0 x)) (sym h.5)
            (h.0, x, subst (λ a. IsArray (with_made g args w n f x) h.0 x a) (sym sound.as_many) (new-array g args w n f x h.0 h.3), h.5, refl)

    -- a fetch
    deliver-ask : (a j f x t : ℕ) → IsMessage g args w (Ask_cell a j f x t) → IsSoundDelivery g args w (delivered w (Ask_cell a j f x t))
    deliver-ask a j f x t h = array (slice_get w.arrays a) refl
      where
        asked : IsAsked g args w a j f x
        asked = h.0

        here : t ≡ site (code_at g asked.q) x
        here = h.1 ∙ ap (λ c. site c x) (sym (sound.path_codes f asked.number.0) ∙ ap (code_at g) asked.number.1)

        cell : (cells : List Cell) → slice_get w.arrays a ≡ Some cells → (o : Option Cell) → slice_get cells j ≡ o
            → IsSoundDelivery g args w (accessed w t j (f, x) 0 (in_array j (fetch_of w.arrays a j (f, x)) (Some cells)))
        cell cells e None d = rw (in_array, d) (record {
          q = asked.q;
          x = x;
          p = asked.p;
          z = asked.z;
          more = [];
          there = code-there f asked.q asked.number;
          accesses = rw asked.fetches tt;
          here = here;
          fired = asked.fired;
          made = made-as w asked.p asked.z a (length cells) asked.array
              (subst (λ o. IsMade g args w a (length (unwrap_or o []))) e (sound.made a asked.array.below));
          beyond = none-past cells j d;
        })
        cell cells e (Some (Empty rs)) d = rw (in_array, d) (record {
          world = sound-cell g args w a j (Empty (rs ++ (f, x) ∷ [])) sound
              (all-append (λ r. IsAsked g args w a j r.0 r.1) rs ((f, x) ∷ []) (sound.cells a j (Empty rs) (rw e d)) (asked, tt));
          grows = grows-arrays w (with_changed_cell g args w a j (Empty (rs ++ (f, x) ∷ []))) refl refl;
          sends = tt;
        })
        cell cells e (Some (Filled u s)) d = rw (in_array, d) (record {
          world = sound;
          grows = grows-same w;
          sends = (answered w a j f x u s sound (rw e (some-below cells j d)) (sound.cells a j (Filled u s) (rw e d)) asked, tt);
        })

        array : (o : Option (List Cell)) → slice_get w.arrays a ≡ o
            → IsSoundDelivery g args w (accessed w t j (f, x) 0 (in_array j (fetch_of w.arrays a j (f, x)) o))
        array None e = absurd (there-some w.arrays a (omega (arith, sound.as_many, asked.array.below)) e)
        array (Some cells) e = cell cells e (slice_get cells j) refl

    -- a store
    deliver-put : (a j u t : ℕ) → IsMessage g args w (Put_cell a j u t) → IsSoundDelivery g args w (delivered w (Put_cell a j u t))
    deliver-put a j u t put = array (slice_get w.arrays a) refl
      where
        cell : (cells : List Cell) → slice_get w.arrays a ≡ Some cells → (o : Option Cell) → slice_get cells j ≡ o
            → IsSoundDelivery g args w (accessed w t j (0, 0) u (in_array j (store_of w.arrays a j u t) (Some cells)))
        cell cells e None d = rw (in_array, d) (record {
          q = put.2.q;
          x = put.1;
          p = put.2.p;
          z = put.2.z;
          more = put.2.value ∷ [];
          there = code-there put.0 put.2.q put.2.number;
          accesses = rw put.2.stores tt;
          here = put.2.here;
          fired = put.2.fired;
          made = made-as w put.2.p put.2.z a (length cells) put.2.array
              (subst (λ o. IsMade g args w a (length (unwrap_or o []))) e (sound.made a put.2.array.below));
          beyond = none-past cells j d;
        })
        cell cells e (Some (Empty rs)) d = rw (in_array, d) (record {
          world = sound-cell g args w a j (Filled u t) sound put;
          grows = grows-arrays w (with_changed_cell g args w a j (Filled u t)) refl refl;
          sends = messages-later g args w (with_changed_cell g args w a j (Filled u t))
              (grows-arrays w (with_changed_cell g args w a j (Filled u t)) refl refl) (answers u rs)
              (all-map (IsMessage g args w) (λ r. Carry r.0 r.1 u) rs
              (all-more (λ r. IsAsked g args w a j r.0 r.1) (λ r. IsMessage g args w (Carry r.0 r.1 u))
              (λ r k. answered w a j r.0 r.1 u t sound (rw e (some-below cells j d)) put k) rs (sound.cells a j (Empty rs) (rw e d))));
        })
        cell cells e (Some (Filled v s)) d = rw (in_array, d) (a, j, v, u, sound.cells a j (Filled v s) (rw e d), put)

        array : (o : Option (List Cell)) → slice_get w.arrays a ≡ o
            → IsSoundDelivery g args w (accessed w t j (0, 0) u (in_array j (store_of w.arrays a j u t) o))
        array None e = absurd (there-some w.arrays a (omega (arith, sound.as_many, put.2.array.below)) e)
        array (Some cells) e = cell cells e (slice_get cells j) refl

    -- any message
    pub deliver : length w.activations < 2 ^ 32 → ((c : ℕ) → c < length g.codes → 0 < length (code_of g c).owners)
        → (m : Message) → IsMessage g args w m → IsSoundDelivery g args w (delivered w m)
    deliver few opened (Carry f x u) h = deliver-carry f x u h
    deliver few opened (Begin c f x) h = deliver-begin few opened c f x h
    deliver few opened (Make n f x) h = deliver-make n f x h
    deliver few opened (Ask_cell a j f x t) h = deliver-ask a j f x t h
    deliver few opened (Put_cell a j u t) h = deliver-put a j u t h
