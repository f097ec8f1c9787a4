-- What every state has that a legal journal of an accepted graph over valid partitions reaches.
use Rattle.std.specs.Prelude.{ℕ, suc, ◌^◌, ◌≡◌, ◌≢◌, ◌<◌, ◌⊎◌, true, false, List, [], ◌∷◌, Option, Some, None, slice_get, length, unwrap_or, Contains}
use Rattle.tam_word.specs.Lists.{has}
use Rattle.tam_word.specs.Words.{meaning}
use Rattle.tam_graph.specs.declared.kind.Kind.{Kind}
use Rattle.tam_graph.specs.declared.kind.Kind.TheVariants.{Param, Const, Op as Operate, Seq, Call, Arg, Ret, Give, Alloc, Fetch, Store, Cond, Switch, Merge}
use Rattle.tam_graph.specs.declared.kind.Kind.TheVariants.{Enter, Leave}
use Rattle.tam_msgs.specs.declared.message.Message.{Message}
use Rattle.tam_msgs.specs.declared.message.Message.TheVariants.{Word as Carry, Frame as Begin, Cells as Make, Fetch as Ask_cell, Store as Put_cell}
use Rattle.tam_msgs.specs.Messages.{outside, site}
use Rattle.tam_istr.specs.Cells.{Cell, Reader, Empty, Filled}
use Rattle.tam_graph.specs.Graphs.{Graph, code_of, kind_at, block_at, depth_at, operands_of, chosen_branch, test_of}
use Rattle.tam_split.specs.GraphPartitions.{Partitions}
use Rattle.tam_fire.specs.FiringRules.{code_at}
use Rattle.tam_world.specs.Worlds.{World, activation_at, its_code, word_of, has_entered}
use Rattle.tam_flow.specs.Journals.{State, has_run, parts_of_act}
use Rattle.tam_flow.specs.Told.{path_of, or_maker, outlet_ran}

-- ---- words for the parts

-- what node x of activation i does
abbrev pub kind_of : Graph → World → ℕ → ℕ → Kind
kind_of g w i x = kind_at (its_code g w i) x

-- and the depth of its value
abbrev pub depth_of : Graph → World → ℕ → ℕ → ℕ
depth_of g w i x = depth_at (its_code g w i) x

-- activation i is there
abbrev pub IsThere : World → ℕ → Type 0
IsThere w i = i < length w.activations

-- the activation and the alloc that made array a
abbrev pub maker_of : World → ℕ → ℕ × ℕ
maker_of w a = or_maker (slice_get w.makers a)

-- the cells of array a
abbrev pub cells_at : World → ℕ → List Cell
cells_at w a = unwrap_or (slice_get w.arrays a) []

-- cell j of array a
abbrev pub cell_at : World → ℕ → ℕ → Option Cell
cell_at w a j = slice_get (cells_at w a) j

-- u may stand for a value of depth d: where d isn't 0 it is the number of an array, whose alloc has this depth
abbrev pub IsTyped : Graph → World → ℕ → ℕ → Type 0
IsTyped g w d u = (e : ℕ) → d ≡ suc e → (u < length w.makers) × (depth_of g w (maker_of w u).0 (maker_of w u).1 ≡ d)

-- u may stand for node x of activation i: an array by its depth, and of a call the activation that this call began
pub record Suits (g : Graph) (w : World) (i x u : ℕ) : Type 0 where
  pub by_depth : IsTyped g w (depth_of g w i x) u
  pub by_call : (c : ℕ) → kind_of g w i x ≡ Call c → (0 < u) × IsThere w u × ((activation_at w u).caller ≡ i) × ((activation_at w u).call ≡ x)

-- the message has a number: it was sent
abbrev pub WasSent : State → Message → Type 0
WasSent s m = (n : ℕ) × (slice_get s.sent n ≡ Some m)

-- and it has arrived
abbrev pub HasArrived : State → Message → Type 0
HasArrived s m = (n : ℕ) × (slice_get s.sent n ≡ Some m) × (has s.arrived n ≡ true)

-- the outlet of node x of activation i has run
abbrev pub Ran : Graph → Partitions → State → ℕ → ℕ → Type 0
Ran g all s i x = outlet_ran g all s i x ≡ true

-- node x of activation i has the word u
abbrev pub Has : State → ℕ → ℕ → ℕ → Type 0
Has s i x u = word_of s.world i x ≡ u ∷ []

-- node x of activation i has some word
abbrev pub HasSome : State → ℕ → ℕ → Type 0
HasSome s i x = (u : ℕ) × Has s i x u

-- each of the nodes has a word
abbrev pub HaveSome : State → ℕ → List ℕ → Type 0
HaveSome s i [] = Unit {0}
HaveSome s i (x ∷ xs) = HasSome s i x × HaveSome s i xs

-- ---- the parts

-- the activations: each but the root was begun by a call of an earlier one, and paths tell them apart
pub record ActivationsStand (g : Graph) (w : World) : Type 0 where
  pub root : IsThere w 0
  pub root_outside : (activation_at w 0).caller ≡ outside
  pub root_code : (activation_at w 0).code ≡ g.main
  pub root_path : path_of w 0 ≡ []
  pub callers : (j : ℕ) → 0 < j → IsThere w j → (activation_at w j).caller < j
  pub calls : (j : ℕ) → 0 < j → IsThere w j → kind_of g w (activation_at w j).caller (activation_at w j).call ≡ Call (activation_at w j).code
  pub paths : (j : ℕ) → 0 < j → IsThere w j → path_of w j ≡ (activation_at w j).call ∷ path_of w (activation_at w j).caller
  pub codes : (j : ℕ) → IsThere w j → (activation_at w j).code < length g.codes
  pub path_codes : (j : ℕ) → IsThere w j → code_at g (path_of w j) ≡ (activation_at w j).code
  pub paths_differ : (i j : ℕ) → IsThere w i → IsThere w j → path_of w i ≡ path_of w j → i ≡ j
  pub bodies : (j : ℕ) → IsThere w j → has_entered w j 0 ≡ true
  pub blocks : (j b : ℕ) → IsThere w j → has_entered w j b ≡ true → b < length (its_code g w j).owners

-- the arrays: each was made by an alloc of an activation, which has the word that is its length, and makers tell arrays apart
pub record ArraysStand (g : Graph) (w : World) : Type 0 where
  pub same_length : length w.arrays ≡ length w.makers
  pub makers_there : (a : ℕ) → a < length w.makers → IsThere w (maker_of w a).0
  pub lengths : (a : ℕ) → a < length w.makers
      → (n : ℕ) × (kind_of g w (maker_of w a).0 (maker_of w a).1 ≡ Alloc n) × (word_of w (maker_of w a).0 n ≡ length (cells_at w a) ∷ [])
  pub makers_differ : (a b : ℕ) → a < length w.makers → b < length w.makers → maker_of w a ≡ maker_of w b → a ≡ b

-- where a word of a node comes from, by what the node does; of an inlet but a merge and an enter: the message has arrived
abbrev pub WordSource : Graph → Partitions → State → ℕ → ℕ → ℕ → Kind → Type 0
WordSource g all s i x u (Const w) = u ≡ w
WordSource g all s i x u (Operate o l r) = (a b : ℕ) × Has s i l a × Has s i r b × (u ≡ meaning o a b)
WordSource g all s i x u (Seq l r) = Has s i l u × HasSome s i r
WordSource g all s i x u (Merge c k) = (y a : ℕ) × (kind_of g s.world i y ≡ Leave k a)
    × (slice_get (its_code g s.world i).owners (block_at (its_code g s.world i) y) ≡ Some (Some c)) × Ran g all s i y × Has s i a u
WordSource g all s i x u (Enter k) = (y c a v : ℕ) × (kind_of g s.world i y ≡ Switch c k a)
    × (block_at (its_code g s.world i) x ≡ chosen_branch (its_code g s.world i) c v) × Ran g all s i y × Has s i
    (test_of (its_code g s.world i) c) v × Has s i a u
WordSource g all s i x u k = HasArrived s (Carry i x u)

-- the words: each suits its node and has its source, and a class that ran had the words that it takes
pub record WordsStand (g : Graph) (all : Partitions) (s : State) : Type 0 where
  pub words_there : (i x u : ℕ) → Has s i x u → IsThere s.world i
  pub suit : (i x u : ℕ) → Has s i x u → Suits g s.world i x u
  pub sources : (i x u : ℕ) → Has s i x u → WordSource g all s i x u (kind_of g s.world i x)
  pub runs_there : (i b c : ℕ) → has_run s i b c ≡ true → IsThere s.world i × (has_entered s.world i b ≡ true) × (c < length (parts_of_act g all s i b))
  pub operands_ready : (i x : ℕ) → Ran g all s i x → HaveSome s i (operands_of (its_code g s.world i) (kind_of g s.world i x))

-- what an outlet that ran has done, by what it does and the words of its operands: it has sent its message, entered the branch, or given the word
pub record OutletsDid (g : Graph) (all : Partitions) (s : State) : Type 0 where
  pub call_sent : (i f c : ℕ) → Ran g all s i f → kind_of g s.world i f ≡ Call c → WasSent s (Begin c i f)
  pub arg_sent : (i y f k a x v p : ℕ) → Ran g all s i y → kind_of g s.world i y ≡ Arg f k a → Has s i a v → Has s i f p
      → kind_of g s.world p x ≡ Param k → WasSent s (Carry p x v)
  pub result_sent : (j y k a x v : ℕ) → Ran g all s j y → kind_of g s.world j y ≡ Give k a → Has s j a v → 0 < j
      → kind_of g s.world (activation_at s.world j).caller x ≡ Ret (activation_at s.world j).call k → WasSent s (Carry (activation_at s.world j).caller x v)
  pub result_printed : (y k a v : ℕ) → Ran g all s 0 y → kind_of g s.world 0 y ≡ Give k a → Has s 0 a v → WasSent s (Carry outside k v)
  pub alloc_sent : (i x n v : ℕ) → Ran g all s i x → kind_of g s.world i x ≡ Alloc n → Has s i n v → WasSent s (Make v i x)
  pub fetch_sent : (i x a j u v : ℕ) → Ran g all s i x → kind_of g s.world i x ≡ Fetch a j → Has s i a u → Has s i j v
      → WasSent s (Ask_cell u v i x (site (activation_at s.world i).code x))
  pub store_sent : (i x a j b t u v : ℕ) → Ran g all s i x → kind_of g s.world i x ≡ Store a j b → Has s i a t → Has s i j u → Has s i b v
      → WasSent s (Put_cell t u v (site (activation_at s.world i).code x))
  pub cond_entered : (i c p y n v : ℕ) → Ran g all s i c → kind_of g s.world i c ≡ Cond p y n → Has s i p v
      → has_entered s.world i (chosen_branch (its_code g s.world i) c v) ≡ true
  pub switch_gave : (i y c k a x v u : ℕ) → Ran g all s i y → kind_of g s.world i y ≡ Switch c k a → Has s i (test_of (its_code g s.world i) c) v
      → Has s i a u
      → kind_of g s.world i x ≡ Enter k → block_at (its_code g s.world i) x ≡ chosen_branch (its_code g s.world i) c v → Has s i x u
  pub leave_gave : (i y c k a x u : ℕ) → Ran g all s i y → kind_of g s.world i y ≡ Leave k a → Has s i a u
      → slice_get (its_code g s.world i).owners (block_at (its_code g s.world i) y) ≡ Some (Some c) → kind_of g s.world i x ≡ Merge c k → Has s i x u

-- what a message that arrived has done
pub record ArrivalsDid (g : Graph) (s : State) : Type 0 where
  pub carried : (f x v : ℕ) → HasArrived s (Carry f x v) → f ≢ outside → Has s f x v
  pub printed : (k v : ℕ) → HasArrived s (Carry outside k v) → Contains s.printed (k, v)
  pub began : (c f x : ℕ) → HasArrived s (Begin c f x)
      → (j : ℕ) × (0 < j) × IsThere s.world j × ((activation_at s.world j).code ≡ c) × ((activation_at s.world j).caller ≡ f) ×
      ((activation_at s.world j).call ≡ x)
      × WasSent s (Carry f x j)
  pub made : (n f x : ℕ) → HasArrived s (Make n f x)
      → (a : ℕ) × (a < length s.world.makers) × (maker_of s.world a ≡ (f, x)) × (length (cells_at s.world a) ≡ n) × WasSent s (Carry f x a)
  -- while there is no fault: a cell that was stored has the word; a reader waits or the word was sent to it
  pub stored : s.fault ≡ None → (a j v t : ℕ) → HasArrived s (Put_cell a j v t) → cell_at s.world a j ≡ Some (Filled v t)
  pub fetched : s.fault ≡ None → (a j f x t : ℕ) → HasArrived s (Ask_cell a j f x t)
      → ((rs : List Reader) × (cell_at s.world a j ≡ Some (Empty rs)) × Contains rs (f, x))
      ⊎ ((v e : ℕ) × (cell_at s.world a j ≡ Some (Filled v e)) × WasSent s (Carry f x v))

-- each thing is sent and done once
pub record OnceEach (g : Graph) (all : Partitions) (s : State) : Type 0 where
  -- the activation and the node that sent each message, in order (of an argument: the outside)
  pub senders : List (ℕ × ℕ)
  pub one_sender : length senders ≡ length s.sent
  -- whoever sent a message but an argument, an answer and a cell's word has run; whoever asks, is named in what is asked
  pub begin_sender : (n c f x : ℕ) → slice_get s.sent n ≡ Some (Begin c f x) → IsThere s.world f × (kind_of g s.world f x ≡ Call c) × Ran g all s f x
  pub make_sender : (n v f x : ℕ) → slice_get s.sent n ≡ Some (Make v f x)
      → (a : ℕ) × IsThere s.world f × (kind_of g s.world f x ≡ Alloc a) × Ran g all s f x × Has s f a v
  pub fetch_sender : (n u v f x t : ℕ) → slice_get s.sent n ≡ Some (Ask_cell u v f x t)
      → (a j : ℕ) × IsThere s.world f × (kind_of g s.world f x ≡ Fetch a j) × Ran g all s f x × Has s f a u × Has s f j v
      × (t ≡ site (activation_at s.world f).code x)
  pub store_sender : (n t u v e : ℕ) → slice_get s.sent n ≡ Some (Put_cell t u v e)
      → (f x a j b : ℕ) × (slice_get senders n ≡ Some (f, x)) × IsThere s.world f × (kind_of g s.world f x ≡ Store a j b) × Ran g all s f x
      × Has s f a t × Has s f j u × Has s f b v × (e ≡ site (activation_at s.world f).code x)
  -- the message of a store that ran has the store as its sender
  pub store_sent_by : (i x a j b t u v : ℕ) → Ran g all s i x → kind_of g s.world i x ≡ Store a j b → Has s i a t → Has s i j u → Has s i b v
      → (n : ℕ) × (slice_get s.sent n ≡ Some (Put_cell t u v (site (activation_at s.world i).code x))) × (slice_get senders n ≡ Some (i, x))
  -- one message of a kind for each sender, one word for each receiver
  pub one_begin : (m n c d f x : ℕ) → slice_get s.sent m ≡ Some (Begin c f x) → slice_get s.sent n ≡ Some (Begin d f x) → m ≡ n
  pub one_make : (m n u v f x : ℕ) → slice_get s.sent m ≡ Some (Make u f x) → slice_get s.sent n ≡ Some (Make v f x) → m ≡ n
  pub one_fetch : (m n a b i j f x t e : ℕ) → slice_get s.sent m ≡ Some (Ask_cell a i f x t) → slice_get s.sent n ≡ Some (Ask_cell b j f x e) → m ≡ n
  pub one_store : (m n a b i j u v t e : ℕ) → slice_get s.sent m ≡ Some (Put_cell a i u t) → slice_get s.sent n ≡ Some (Put_cell b j v e)
      → slice_get senders m ≡ slice_get senders n → m ≡ n
  pub one_word : (m n f x u v : ℕ) → f ≢ outside → slice_get s.sent m ≡ Some (Carry f x u) → slice_get s.sent n ≡ Some (Carry f x v) → m ≡ n
  pub not_yet : (m f x u : ℕ) → f ≢ outside → slice_get s.sent m ≡ Some (Carry f x u) → has s.arrived m ≡ false → word_of s.world f x ≡ []
  -- while there is no fault one store at most has arrived for a cell, and what a cell has, came by it
  pub one_stored : s.fault ≡ None → (m n a j u v t e : ℕ) → slice_get s.sent m ≡ Some (Put_cell a j u t) → slice_get s.sent n ≡ Some (Put_cell a j v e)
      → has s.arrived m ≡ true → has s.arrived n ≡ true → m ≡ n
  pub filled_by : (a j v t : ℕ) → cell_at s.world a j ≡ Some (Filled v t) → HasArrived s (Put_cell a j v t)
  pub waiting : (a j : ℕ) (rs : List Reader) (f x : ℕ) → cell_at s.world a j ≡ Some (Empty rs) → Contains rs (f, x)
      → (t : ℕ) × HasArrived s (Ask_cell a j f x t)

-- the arguments were sent, and what is sent is for a node that it suits
pub record MessagesStand (g : Graph) (args : List ℕ) (s : State) : Type 0 where
  pub arguments : (x k v : ℕ) → kind_at (code_of g g.main) x ≡ Param k → slice_get args k ≡ Some v → WasSent s (Carry 0 x v)
  pub receivers : (n f x v : ℕ) → slice_get s.sent n ≡ Some (Carry f x v) → f ≢ outside → IsThere s.world f × Suits g s.world f x v

-- the whole
pub record IsReached (g : Graph) (all : Partitions) (args : List ℕ) (s : State) : Type 0 where
  pub few_activations : length s.world.activations < 2 ^ 32
  pub few_arrays : length s.world.arrays < 2 ^ 32
  pub activations : ActivationsStand g s.world
  pub arrays : ArraysStand g s.world
  pub words : WordsStand g all s
  pub outlets : OutletsDid g all s
  pub arrivals : ArrivalsDid g s
  pub once : OnceEach g all s
  pub messages : MessagesStand g args s
