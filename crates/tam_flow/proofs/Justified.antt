-- What the firing rules have to give for a state to be sound: a reason for each activation, entered block, word, cell and message.
use Rattle.std.proofs.Common.{◌≡◌, ℕ, zero, suc, ◌<◌, true, false, ◌==◌, List, [], ◌∷◌, Some, length, sym, ap, ◌∙◌, subst, inl, inr, ◌⊎◌}
use Rattle.std.specs.List.{AllByRecursion}
use Rattle.tam_graph.specs.declared.kind.Kind.{Kind}
use Rattle.tam_graph.specs.declared.kind.Kind.TheVariants.{Call, Alloc, Fetch, Store}
use Rattle.tam_msgs.specs.declared.message.Message.{Message}
use Rattle.tam_msgs.specs.declared.message.Message.TheVariants.{Word as Carry, Frame as Begin, Cells as Make, Fetch as Ask_cell, Store as Put_cell}
use Rattle.tam_msgs.specs.Messages.{outside, site}
use Rattle.tam_istr.specs.Cells.{Cell, Empty, Filled}
use Rattle.tam_graph.specs.Graphs.{Graph, depth_at}
use Rattle.tam_fire.specs.FiringRules.{Path, Value, Word, Activation, Array, Begun, Entered, Val, Fired, Holds, code_at, the_code, node_of}
use Rattle.tam_world.specs.Worlds.{World, activation_at, word_of, has_entered}
use Rattle.tam_flow.specs.Told.{IsNumber, path_of}
use Rattle.tam_flow.specs.Reached.{IsThere, maker_of, cells_at, cell_at}
use Rattle.tam_flow.proofs.Growing.{Grows}
use Rattle.tam_word.proofs.Each.{all-more}

-- the depth of a node of an activation, by its path
abbrev pub depth_in : Graph → Path → ℕ → ℕ
depth_in g q x = depth_at (the_code g q) x

-- array a was made by the alloc z of the activation p
pub record IsArray (w : World) (p : Path) (z a : ℕ) : Type 0 where
  pub below : a < length w.makers
  pub number : IsNumber w p (maker_of w a).0
  pub alloc : (maker_of w a).1 ≡ z

-- at depth d the word u stands for the value v: for itself, or for an array whose alloc has this depth
abbrev pub StandsFor : Graph → World → ℕ → ℕ → Value → Type 0
StandsFor g w zero u v = v ≡ Word u
StandsFor g w (suc d) u v = (p : Path) × (z : ℕ) × IsArray w p z u × (depth_in g p z ≡ suc d) × (v ≡ Array p z)

-- the node is no call
abbrev pub IsNoCall : Kind → Type 0
IsNoCall k = (c : ℕ) → k ≡ Call c → ⊥

-- of node x of q the word u means the value v
abbrev pub Means : Graph → World → Path → ℕ → ℕ → Value → Type 0
Means g w q x u v =
    ((c : ℕ) × (node_of g q x ≡ Call c) × IsNumber w (x ∷ q) u × (v ≡ Activation (x ∷ q)))
    ⊎ (IsNoCall (node_of g q x) × StandsFor g w (depth_in g q x) u v)

-- node x of q has a value, which the word u means
pub record IsValue (g : Graph) (args : List ℕ) (w : World) (q : Path) (x u : ℕ) : Type 0 where
  pub value : Value
  pub means : Means g w q x u value
  pub holds : Holds g args (Val q x value)

-- a fetch of activation number f asks for cell j of array a
pub record IsAsked (g : Graph) (args : List ℕ) (w : World) (a j f x : ℕ) : Type 0 where
  pub q : Path
  pub p : Path
  pub z : ℕ
  pub b : ℕ
  pub c : ℕ
  pub number : IsNumber w q f
  pub fetches : node_of g q x ≡ Fetch b c
  pub array : IsArray w p z a
  pub depth : depth_in g p z ≡ suc (depth_in g q x)
  pub fired : Holds g args (Fired q x (Array p z ∷ Word j ∷ []))

-- the store y of activation number f puts, at the site t, the word u into cell j of array a
pub record IsPutBy (g : Graph) (args : List ℕ) (w : World) (f y a j u t : ℕ) : Type 0 where
  pub q : Path
  pub number : IsNumber w q f
  pub p : Path
  pub z : ℕ
  pub b : ℕ
  pub c : ℕ
  pub e : ℕ
  pub d : ℕ
  pub value : Value
  pub stores : node_of g q y ≡ Store b c e
  pub here : t ≡ site (code_at g q) y
  pub array : IsArray w p z a
  pub depth : depth_in g p z ≡ suc d
  pub stands : StandsFor g w d u value
  pub fired : Holds g args (Fired q y (Array p z ∷ Word j ∷ value ∷ []))

-- some store does
abbrev pub IsPut : Graph → List ℕ → World → ℕ → ℕ → ℕ → ℕ → Type 0
IsPut g args w a j u t = (f y : ℕ) × IsPutBy g args w f y a j u t

-- array a has n cells, as its alloc asked
pub record IsMade (g : Graph) (args : List ℕ) (w : World) (a n : ℕ) : Type 0 where
  pub p : Path
  pub z : ℕ
  pub c : ℕ
  pub array : IsArray w p z a
  pub allocs : node_of g p z ≡ Alloc c
  pub fired : Holds g args (Fired p z (Word n ∷ []))

-- cell j of array a: each reader asked, what it has was put
abbrev pub IsCell : Graph → List ℕ → World → ℕ → ℕ → Cell → Type 0
IsCell g args w a j (Empty rs) = AllByRecursion (λ r. IsAsked g args w a j r.0 r.1) rs
IsCell g args w a j (Filled u t) = IsPut g args w a j u t

-- a message has its reason
abbrev pub IsMessage : Graph → List ℕ → World → Message → Type 0
IsMessage g args w (Carry f x u) = ((f == outside) ≡ true) ⊎ ((q : Path) × IsNumber w q f × IsValue g args w q x u)
IsMessage g args w (Begin c f x) = (q : Path) × IsNumber w q f × (node_of g q x ≡ Call c) × (c < length g.codes) × Holds g args (Fired q x [])
IsMessage g args w (Make n f x) =
    (q : Path) × (c d : ℕ) × IsNumber w q f × (node_of g q x ≡ Alloc c) × (depth_in g q x ≡ suc d) × Holds g args (Fired q x (Word n ∷ []))
IsMessage g args w (Ask_cell a j f x t) = IsAsked g args w a j f x × (t ≡ site (activation_at w f).code x)
IsMessage g args w (Put_cell a j u t) = IsPut g args w a j u t

-- the world: its activations, blocks, words, arrays and cells have their reasons
pub record IsSoundWorld (g : Graph) (args : List ℕ) (w : World) : Type 0 where
  pub codes : (i : ℕ) → IsThere w i → (activation_at w i).code < length g.codes
  pub path_codes : (i : ℕ) → IsThere w i → code_at g (path_of w i) ≡ (activation_at w i).code
  pub callers : (i : ℕ) → IsThere w i → ((activation_at w i).caller == outside) ≡ false
      → IsThere w (activation_at w i).caller × (path_of w i ≡ (activation_at w i).call ∷ path_of w (activation_at w i).caller)
  pub began : (i : ℕ) → IsThere w i → Holds g args (Begun (path_of w i))
  pub blocks : (i b : ℕ) → IsThere w i → has_entered w i b ≡ true → Holds g args (Entered (path_of w i) b) × (b < length (the_code g (path_of w i)).owners)
  pub words : (i x u : ℕ) → IsThere w i → word_of w i x ≡ u ∷ [] → IsValue g args w (path_of w i) x u
  pub as_many : length w.arrays ≡ length w.makers
  pub made : (a : ℕ) → a < length w.makers → IsMade g args w a (length (cells_at w a))
  pub cells : (a j : ℕ) (c : Cell) → cell_at w a j ≡ Some c → IsCell g args w a j c

-- ---- reasons stay

module _ (g : Graph) (args : List ℕ) (w v : World) (grows : Grows w v) where
  -- a path's number stays its number
  pub number-later : (q : Path) (i : ℕ) → IsNumber w q i → IsNumber v q i
  number-later q i h = (grows.there i h.0, grows.path i h.0 ∙ h.1)

  -- an array stays its alloc's
  pub array-later : (p : Path) (z a : ℕ) → IsArray w p z a → IsArray v p z a
  array-later p z a h = record {
    below = grows.numbers a h.below;
    number = subst (λ m. IsNumber v p m.0) (sym (grows.maker a h.below)) (number-later p (maker_of w a).0 h.number);
    alloc = ap (λ m. m.1) (grows.maker a h.below) ∙ h.alloc;
  }

  -- a word stands for what it stood for
  pub stands-later : (d u : ℕ) (x : Value) → StandsFor g w d u x → StandsFor g v d u x
  stands-later zero u x h = h
  stands-later (suc d) u x h = (h.0, h.1, array-later h.0 h.1 u h.2, h.3, h.4)

  -- and means what it meant
  pub means-later : (q : Path) (x u : ℕ) (y : Value) → Means g w q x u y → Means g v q x u y
  means-later q x u y (inl h) = inl (h.0, h.1, number-later (x ∷ q) u h.2, h.3)
  means-later q x u y (inr h) = inr (h.0, stands-later (depth_in g q x) u y h.1)

  -- its reason stays a reason
  pub value-later : (q : Path) (x u : ℕ) → IsValue g args w q x u → IsValue g args v q x u
  value-later q x u h = record { value = h.value; means = means-later q x u h.value h.means; holds = h.holds }

  -- so does that of a reader
  pub asked-later : (a j f x : ℕ) → IsAsked g args w a j f x → IsAsked g args v a j f x
  asked-later a j f x h = record {
    q = h.q;
    p = h.p;
    z = h.z;
    b = h.b;
    c = h.c;
    number = number-later h.q f h.number;
    fetches = h.fetches;
    array = array-later h.p h.z a h.array;
    depth = h.depth;
    fired = h.fired;
  }

  -- that of what one store put
  pub put_by-later : (f y a j u t : ℕ) → IsPutBy g args w f y a j u t → IsPutBy g args v f y a j u t
  put_by-later f y a j u t h = record {
    q = h.q;
    number = number-later h.q f h.number;
    p = h.p;
    z = h.z;
    b = h.b;
    c = h.c;
    e = h.e;
    d = h.d;
    value = h.value;
    stores = h.stores;
    here = h.here;
    array = array-later h.p h.z a h.array;
    depth = h.depth;
    stands = stands-later h.d u h.value h.stands;
    fired = h.fired;
  }

  -- that of what was put
  pub put-later : (a j u t : ℕ) → IsPut g args w a j u t → IsPut g args v a j u t
  put-later a j u t h = (h.0, h.1, put_by-later h.0 h.1 a j u t h.2)

  -- that of an array
  pub made-later : (a n : ℕ) → IsMade g args w a n → IsMade g args v a n
  made-later a n h = record { p = h.p; z = h.z; c = h.c; array = array-later h.p h.z a h.array; allocs = h.allocs; fired = h.fired }

  -- that of a cell
  pub cell-later : (a j : ℕ) (c : Cell) → IsCell g args w a j c → IsCell g args v a j c
  cell-later a j (Empty rs) h = all-more (λ r. IsAsked g args w a j r.0 r.1) (λ r. IsAsked g args v a j r.0 r.1) (λ r k. asked-later a j r.0 r.1 k) rs h
  cell-later a j (Filled u t) h = put-later a j u t h

  -- that of a message
  pub message-later : (m : Message) → IsMessage g args w m → IsMessage g args v m
  message-later (Carry f x u) (inl h) = inl h
  message-later (Carry f x u) (inr h) = inr (h.0, number-later h.0 f h.1, value-later h.0 x u h.2)
  message-later (Begin c f x) h = (h.0, number-later h.0 f h.1, h.2, h.3, h.4)
  message-later (Make n f x) h = (h.0, h.1, h.2, number-later h.0 f h.3, h.4, h.5, h.6)
  message-later (Ask_cell a j f x t) h = (asked-later a j f x h.0, h.1 ∙ ap (λ c. site c x) (sym (grows.code f h.0.number.0)))
  message-later (Put_cell a j u t) h = put-later a j u t h

  -- and those of messages
  pub messages-later : (ms : List Message) → AllByRecursion (IsMessage g args w) ms → AllByRecursion (IsMessage g args v) ms
  messages-later ms h = all-more (IsMessage g args w) (IsMessage g args v) message-later ms h
