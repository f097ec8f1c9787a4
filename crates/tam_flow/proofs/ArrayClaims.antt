-- Arrays at rest: an alloc answers, a fetch gets the word that a store put, no cell is stored twice, and no access is outside.
use Rattle.std.proofs.Common.{◌≡◌, ℕ, suc, ◌<◌, List, [], ◌∷◌, true, refl, sym, subst, ap, ap₂, inl, inr, ◌⊎◌, ⊎_elim, ◌∙◌, length, Some}
use Rattle.std.proofs.Common.{slice_get}
use Rattle.std.specs.Prelude.{Contains, Option}
use Rattle.std.proofs.lemmas.Option.{slice_get_within}
use Rattle.tam_word.specs.Lists.{has}
use Rattle.tam_graph.specs.declared.kind.Kind.{Kind}
use Rattle.tam_graph.specs.declared.kind.Kind.TheVariants.{Alloc, Fetch, Store}
use Rattle.tam_msgs.specs.declared.message.Message.TheVariants.{Word as Carry, Cells as Make, Fetch as Ask_cell, Store as Put_cell}
use Rattle.tam_msgs.specs.Messages.{site}
use Rattle.tam_istr.specs.Cells.{Cell, Reader, Empty, Filled}
use Rattle.tam_graph.specs.Graphs.{Graph, operands_of}
use Rattle.tam_graph.specs.Accepted.{IsAccepted}
use Rattle.tam_graph.proofs.Depths.{alloc-depth, fetch-depth, store-depth}
use Rattle.tam_graph.proofs.NamedNodes.{NoCall, alloc-line, fetch-line, store-line}
use Rattle.tam_split.specs.GraphPartitions.{Partitions, are_valid}
use Rattle.tam_fire.specs.FiringRules.{Path, Value, Word, Array, Fired, node_of, IsStore, IsAccess}
use Rattle.tam_world.specs.Worlds.{activation_at, its_code}
use Rattle.tam_flow.specs.Journals.{State}
use Rattle.tam_flow.specs.Told.{path_of, array_of, HasWord, HaveWords, Tells}
use Rattle.tam_flow.specs.Reached.{kind_of, depth_of, IsThere, maker_of, cells_at, cell_at, WasSent, Has, HasSome, HaveSome, Ran, IsReached}
use Rattle.tam_flow.proofs.Quiet.{IsAtRest, sent-arrived, number-arrived}
use Rattle.tam_flow.proofs.Claims.{ValueClaim, same-meaning, word-meaning, array-meaning, one-word, kind-here, same-number, claim-inlet, carry-has}
use Rattle.tam_flow.proofs.RuleClaims.{word-eq, array-eq, words-of}
use Rattle.tam_flow.proofs.Firings.{some-depth}

-- ---- equal parts

-- of numbers that follow others
suc-eq : (a b : ℕ) → suc a ≡ suc b → a ≡ b
suc-eq a b h = cc

-- of pairs in an option
pair-eq : (a b c d : ℕ) → ◌≡◌ {A = Option (ℕ × ℕ)} (Some (a, b)) (Some (c, d)) → (a ≡ c) × (b ≡ d)
pair-eq a b c d h = let e : ◌≡◌ {A = ℕ × ℕ} (a, b) (c, d) = cc in (ap (λ (p : ℕ × ℕ). p.0) e, ap (λ (p : ℕ × ℕ). p.1) e)

-- ---- kinds

-- a store is one by its kind
store-kind : (k : Kind) → IsStore k → (a j b : ℕ) × (k ≡ Store a j b)
store-kind (Store a j b) h = (a, j, b, refl)
store-kind k h = absurd h

-- an access is a fetch or a store
access-kind : (k : Kind) → IsAccess k → ((a j : ℕ) × (k ≡ Fetch a j)) ⊎ ((a j b : ℕ) × (k ≡ Store a j b))
access-kind (Fetch a j) h = inl (a, j, refl)
access-kind (Store a j b) h = inr (a, j, b, refl)
access-kind k h = absurd h

-- ---- cells

-- nodes a and j of activation i have words that mean an array of depth d + 1 and an index
pub record NamesCell (g : Graph) (s : State) (i a j d : ℕ) (array index : Value) : Type 0 where
  pub which : ℕ
  pub place : ℕ
  pub has_array : Has s i a which
  pub has_index : Has s i j place
  pub means_array : array ≡ array_of s.world which
  pub means_index : index ≡ Word place
  pub made : which < length s.world.makers
  pub deep : depth_of g s.world (maker_of s.world which).0 (maker_of s.world which).1 ≡ suc d

module _ (g : Graph) (all : Partitions) (args : List ℕ) (s : State) (acc : IsAccepted g) (reached : IsReached g all args s) where
  -- operands of such kinds and depths do
  names-cell : (i a j d : ℕ) (array index : Value) → NoCall (its_code g s.world i) a → NoCall (its_code g s.world i) j
      → depth_of g s.world i a ≡ suc d → depth_of g s.world i j ≡ 0 → HasWord g s.world i a array → HasWord g s.world i j index
      → NamesCell g s i a j d array index
  names-cell i a j d array index na nj da dj (t, ht, mt) (u, hu, mu) =
      let typed = (reached.words.suit i a t ht).by_depth d da in
      record {
        which = t;
        place = u;
        has_array = ht;
        has_index = hu;
        means_array = mt ∙ array-meaning s.world (kind_of g s.world i a) (depth_of g s.world i a) d t na da;
        means_index = mu ∙ word-meaning s.world (kind_of g s.world i j) (depth_of g s.world i j) u nj dj;
        made = typed.0;
        deep = typed.1 ∙ da;
      }

  -- those of a fetch do
  fetch-names : (i x a j : ℕ) (array index : Value) (more : List Value) → IsThere s.world i → kind_of g s.world i x ≡ Fetch a j
      → HaveWords g s.world i (operands_of (its_code g s.world i) (kind_of g s.world i x)) (array ∷ index ∷ more)
      → NamesCell g s i a j (depth_of g s.world i x) array index
  fetch-names i x a j array index more there k have =
      let l = reached.activations.codes i there in
      let line = fetch-line g acc (activation_at s.world i).code l x a j k in
      let deep = fetch-depth g acc (activation_at s.world i).code l x a j k in
      let words = subst (λ z. HaveWords g s.world i (operands_of (its_code g s.world i) z) (array ∷ index ∷ more)) k have in
      names-cell i a j (depth_of g s.world i x) array index line.0 line.1 deep.1 deep.0 words.0 words.1.0

  -- and those of a store
  store-names : (i x a j b : ℕ) (array index : Value) (more : List Value) → IsThere s.world i → kind_of g s.world i x ≡ Store a j b
      → HaveWords g s.world i (operands_of (its_code g s.world i) (kind_of g s.world i x)) (array ∷ index ∷ more)
      → NamesCell g s i a j (depth_of g s.world i b) array index
  store-names i x a j b array index more there k have =
      let l = reached.activations.codes i there in
      let line = store-line g acc (activation_at s.world i).code l x a j b k in
      let deep = store-depth g acc (activation_at s.world i).code l x a j b k in
      let words = subst (λ z. HaveWords g s.world i (operands_of (its_code g s.world i) z) (array ∷ index ∷ more)) k have in
      names-cell i a j (depth_of g s.world i b) array index line.0 line.1 deep.1 deep.0 words.0 words.1.0

  -- the word that a store which ran has for its cell
  store-word : (i x a j b : ℕ) → kind_of g s.world i x ≡ Store a j b → Ran g all s i x → HasSome s i b
  store-word i x a j b k ran = (subst (λ z. HaveSome s i (operands_of (its_code g s.world i) z)) k (reached.words.operands_ready i x ran)).1.1.0

  -- words that mean one cell are the same
  same-cell : (i a j d : ℕ) (f b k e : ℕ) (array index : Value) (m : NamesCell g s i a j d array index) (n : NamesCell g s f b k e array index)
      → (m.which ≡ n.which) × (m.place ≡ n.place)
  same-cell i a j d f b k e array index m n = (
    reached.arrays.makers_differ m.which n.which m.made n.made maker,
    word-eq m.place n.place
        (sym m.means_index ∙ n.means_index),
  )
    where
      parts : (path_of s.world (maker_of s.world m.which).0 ≡ path_of s.world (maker_of s.world n.which).0)
          × ((maker_of s.world m.which).1 ≡ (maker_of s.world n.which).1)
      parts = array-eq (path_of s.world (maker_of s.world m.which).0) (path_of s.world (maker_of s.world n.which).0) (maker_of s.world m.which).1
          (maker_of s.world n.which).1
          (sym m.means_array ∙ n.means_array)

      caller : (maker_of s.world m.which).0 ≡ (maker_of s.world n.which).0
      caller = reached.activations.paths_differ (maker_of s.world m.which).0 (maker_of s.world n.which).0
          (reached.arrays.makers_there m.which m.made) (reached.arrays.makers_there n.which n.made) parts.0

      maker : maker_of s.world m.which ≡ maker_of s.world n.which
      maker = ap₂ (λ (a b : ℕ). (a, b)) caller parts.1

  -- and the values in it have one depth
  same-depth : (i a j d : ℕ) (f b k e : ℕ) (array index : Value) (m : NamesCell g s i a j d array index) (n : NamesCell g s f b k e array index) → d ≡ e
  same-depth i a j d f b k e array index m n =
      let maker = ap (λ t. depth_of g s.world (maker_of s.world t).0 (maker_of s.world t).1) (same-cell i a j d f b k e array index m n).0 in
      suc-eq d e (sym m.deep ∙ (maker ∙ n.deep))

  -- ---- at rest

  module _ (rest : IsAtRest g all s) (valid : are_valid g all ≡ true) where
    -- an alloc answers with its array
    pub claim-alloc : (q : Path) (x a n : ℕ) → node_of g q x ≡ Alloc a → Tells g all s (Fired q x (Word n ∷ [])) → ValueClaim g s q x (Array q x)
    claim-alloc q x a n e (i, num, out, ran, have) =
        let k = kind-here g all args s reached q i x (Alloc a) num e in
        let words = words-of g all args s acc reached rest valid i x (Alloc a) (Word n ∷ []) k have in
        let u = words.0.0 in
        let made = reached.arrivals.made u i x (sent-arrived g all s rest (Make u i x) (reached.outlets.alloc_sent i x a u ran k words.0.1)) in
        let come = carry-has g all args s reached rest valid i x made.0 num.0 made.4 in
        let deep = some-depth (depth_of g s.world i x) (alloc-depth g acc (activation_at s.world i).code (reached.activations.codes i num.0) x a k).1 in
        let means : array_of s.world made.0 ≡ Array q x =
        ap (λ (m : ℕ × ℕ). Array (path_of s.world m.0) m.1) made.2 ∙ ap (λ p. Array p x) num.1 in
        claim-inlet g all args s reached q x (Array q x) i made.0 (rw e refl) num come
        (sym means ∙ sym (array-meaning s.world (kind_of g s.world i x) (depth_of g s.world i x) deep.0 made.0 (λ c p. cc) deep.1))

    -- the cell of a store that ran has its word
    cell-stored : (i x a j b d v : ℕ) (array index : Value) (m : NamesCell g s i a j d array index) → kind_of g s.world i x ≡ Store a j b → Ran g all s i x
        → Has s i b v
        → cell_at s.world m.which m.place ≡ Some (Filled v (site (activation_at s.world i).code x))
    cell-stored i x a j b d v array index m k ran h =
        reached.arrivals.stored rest.whole m.which m.place v (site (activation_at s.world i).code x)
        (sent-arrived g all s rest (Put_cell m.which m.place v (site (activation_at s.world i).code x))
        (reached.outlets.store_sent i x a j b m.which m.place v ran k m.has_array m.has_index h))

    -- what comes of a fetch that ran: it waits, or was sent the cell's word
    abbrev Fetched : ℕ → ℕ → ℕ → ℕ → Type 0
    Fetched a j f x = ((rs : List Reader) × (cell_at s.world a j ≡ Some (Empty rs)) × Contains rs (f, x))
        ⊎ ((v e : ℕ) × (cell_at s.world a j ≡ Some (Filled v e)) × WasSent s (Carry f x v))

    -- of each fetch that ran, one of the two
    cell-fetched : (i x a j d : ℕ) (array index : Value) (m : NamesCell g s i a j d array index) → kind_of g s.world i x ≡ Fetch a j → Ran g all s i x
        → Fetched m.which m.place i x
    cell-fetched i x a j d array index m k ran =
        reached.arrivals.fetched rest.whole m.which m.place i x (site (activation_at s.world i).code x)
        (sent-arrived g all s rest (Ask_cell m.which m.place i x (site (activation_at s.world i).code x))
        (reached.outlets.fetch_sent i x a j m.which m.place ran k m.has_array m.has_index))

    -- where the cell has a word, it was sent
    fetch-sent : (a j f x v t : ℕ) → cell_at s.world a j ≡ Some (Filled v t) → Fetched a j f x → WasSent s (Carry f x v)
    fetch-sent a j f x v t h (inl w) = absurd (apart w.0 v t (sym w.1 ∙ h))
      where
        apart : (rs : List Reader) (v t : ℕ) → ◌≡◌ {A = Option Cell} (Some (Empty rs)) (Some (Filled v t)) → ⊥
        apart rs v t e = cc
    fetch-sent a j f x v t h (inr w) = subst (λ z. WasSent s (Carry f x z)) (filled w.0 v w.1 t (sym w.2 ∙ h)) w.3
      where
        filled : (u v e t : ℕ) → ◌≡◌ {A = Option Cell} (Some (Filled u e)) (Some (Filled v t)) → u ≡ v
        filled u v e t h = cc

    -- a fetch answers with the value that a store put into its cell
    pub claim-fetch : (q r p : Path) (x y z a b i c d e : ℕ) (v : Value) → node_of g q x ≡ Fetch a b → node_of g r y ≡ Store c d e
        → Tells g all s (Fired q x (Array p z ∷ Word i ∷ [])) → Tells g all s (Fired r y (Array p z ∷ Word i ∷ v ∷ [])) → ValueClaim g s q x v
    claim-fetch q r p x y z a b i c d e v at st (f, fnum, fout, fran, fhave) (t, tnum, tout, tran, thave) =
        let kf = kind-here g all args s reached q f x (Fetch a b) fnum at in
        let kt = kind-here g all args s reached r t y (Store c d e) tnum st in
        let m = fetch-names f x a b (Array p z) (Word i) [] fnum.0 kf fhave in
        let n = store-names t y c d e (Array p z) (Word i) (v ∷ []) tnum.0 kt thave in
        let words = words-of g all args s acc reached rest valid t y (Store c d e) (Array p z ∷ Word i ∷ v ∷ []) kt thave in
        let u = words.1.1.0.0 in
        let same = same-cell t c d (depth_of g s.world t e) f a b (depth_of g s.world f x) (Array p z) (Word i) n m in
        let stored = cell-stored t y c d e (depth_of g s.world t e) u (Array p z) (Word i) n kt tran words.1.1.0.1 in
        let filled : cell_at s.world m.which m.place ≡ Some (Filled u (site (activation_at s.world t).code y)) =
        subst (λ k. cell_at s.world m.which k ≡ Some (Filled u (site (activation_at s.world t).code y))) same.1
        (subst (λ k. cell_at s.world k n.place ≡ Some (Filled u (site (activation_at s.world t).code y))) same.0 stored) in
        let fetched = cell-fetched f x a b (depth_of g s.world f x) (Array p z) (Word i) m kf fran in
        let come = carry-has g all args s reached rest valid f x u fnum.0
        (fetch-sent m.which m.place f x u (site (activation_at s.world t).code y) filled fetched) in
        let deep = same-depth t c d (depth_of g s.world t e) f a b (depth_of g s.world f x) (Array p z) (Word i) n m in
        let plain = (store-line g acc (activation_at s.world t).code (reached.activations.codes t tnum.0) y c d e kt).2 in
        claim-inlet g all args s reached q x v f u (rw at refl) fnum come
        (words.1.1.0.2 ∙ same-meaning s.world (kind_of g s.world t e) (kind_of g s.world f x) (depth_of g s.world t e) (depth_of g s.world f x) u plain
        (λ n m. cc) deep)

    -- ---- no cell is stored twice

    -- the message of a store that ran has arrived, and was sent by the store
    abbrev PutBy : ℕ → ℕ → ℕ → ℕ → Type 0
    PutBy i x t u = (n v : ℕ) × (slice_get s.sent n ≡ Some (Put_cell t u v (site (activation_at s.world i).code x)))
        × (slice_get reached.once.senders n ≡ Some (i, x)) × (has s.arrived n ≡ true)

    -- there is one of each store that ran
    put-by : (i x a j b d : ℕ) (array index : Value) (m : NamesCell g s i a j d array index) → kind_of g s.world i x ≡ Store a j b → Ran g all s i x
        → PutBy i x m.which m.place
    put-by i x a j b d array index m k ran =
        let w = store-word i x a j b k ran in
        let sent = reached.once.store_sent_by i x a j b m.which m.place w.0 ran k m.has_array m.has_index w.1 in
        (sent.0, w.0, sent.1, sent.2, number-arrived g all s rest sent.0 (Put_cell m.which m.place w.0 (site (activation_at s.world i).code x)) sent.1)

    -- two stores that put into one cell are one
    one-sender : (i x f y t u : ℕ) → PutBy i x t u → PutBy f y t u → (i ≡ f) × (x ≡ y)
    one-sender i x f y t u (m, v, ms, mb, ma) (n, w, ns, nb, na) =
        let one : m ≡ n = reached.once.one_stored rest.whole m n t u v w (site (activation_at s.world i).code x)
        (site (activation_at s.world f).code y) ms ns ma na in
        pair-eq i x f y (sym mb ∙ (ap (slice_get reached.once.senders) one ∙ nb))

    -- two stores that fired with one array and one index are one
    pub one-store : (p q : Path) (x y : ℕ) (array index v w : Value) → IsStore (node_of g p x) → IsStore (node_of g q y)
        → Tells g all s (Fired p x (array ∷ index ∷ v ∷ [])) → Tells g all s (Fired q y (array ∷ index ∷ w ∷ [])) → ◌≡◌ {A = Path × ℕ} (p, x) (q, y)
    one-store p q x y array index v w is-first is-second (f, fnum, fout, fran, fhave) (t, tnum, tout, tran, thave) =
        both (store-kind (node_of g p x) is-first) (store-kind (node_of g q y) is-second)
      where
        both : (a j b : ℕ) × (node_of g p x ≡ Store a j b) → (a j b : ℕ) × (node_of g q y ≡ Store a j b) → ◌≡◌ {A = Path × ℕ} (p, x) (q, y)
        both (a, j, b, k) (c, d, e, l) =
            let kf = kind-here g all args s reached p f x (Store a j b) fnum k in
            let kt = kind-here g all args s reached q t y (Store c d e) tnum l in
            let m = store-names f x a j b array index (v ∷ []) fnum.0 kf fhave in
            let n = store-names t y c d e array index (w ∷ []) tnum.0 kt thave in
            let same = same-cell t c d (depth_of g s.world t e) f a j (depth_of g s.world f b) array index n m in
            let first = put-by f x a j b (depth_of g s.world f b) array index m kf fran in
            let second = put-by t y c d e (depth_of g s.world t e) array index n kt tran in
            let one = one-sender f x t y m.which m.place first (subst (λ z. PutBy t y m.which z) same.1 (subst (λ z. PutBy t y z n.place) same.0 second)) in
            ap₂ (λ (a : Path) (b : ℕ). (a, b)) (sym fnum.1 ∙ (ap (path_of s.world) one.0 ∙ tnum.1)) one.1

    -- ---- no access is outside

    -- an array is as long as its alloc fired with
    array-length : (p : Path) (y len u : ℕ) → u < length s.world.makers → Array p y ≡ array_of s.world u → Tells g all s (Fired p y (Word len ∷ []))
        → length (cells_at s.world u) ≡ len
    array-length p y len u l same (i, num, out, ran, have) =
        let parts = array-eq p (path_of s.world (maker_of s.world u).0) y (maker_of s.world u).1 same in
        let made = reached.arrays.lengths u l in
        let one : (maker_of s.world u).0 ≡ i = same-number g all args s reached p (maker_of s.world u).0 i (
          reached.arrays.makers_there u l,
          sym parts.0,
        ) num in
        let k : kind_of g s.world i y ≡ Alloc made.0 =
        subst (λ z. kind_of g s.world z y ≡ Alloc made.0) one (subst (λ z. kind_of g s.world (maker_of s.world u).0 z ≡ Alloc made.0)
        (sym parts.1) made.1) in
        let words = words-of g all args s acc reached rest valid i y (Alloc made.0) (Word len ∷ []) k have in
        let code = reached.activations.codes i num.0 in
        let asked : len ≡ words.0.0 = word-eq len words.0.0 (words.0.2 ∙ word-meaning s.world (kind_of g s.world i made.0)
        (depth_of g s.world i made.0) words.0.0
        (alloc-line g acc (activation_at s.world i).code code y made.0 k) (alloc-depth g acc (activation_at s.world i).code code y made.0 k).0) in
        let long = one-word s i made.0 words.0.0 (length (cells_at s.world u)) words.0.1
        (subst (λ z. Has s z made.0 (length (cells_at s.world u))) one made.2) in
        sym (asked ∙ long)

    -- a cell that is there has an index below that
    named-inside : (i a j d : ℕ) (p : Path) (y index len : ℕ) (c : Cell) (m : NamesCell g s i a j d (Array p y) (Word index))
        → Tells g all s (Fired p y (Word len ∷ [])) → cell_at s.world m.which m.place ≡ Some c → index < len
    named-inside i a j d p y index len c m made cell =
        let within = slice_get_within (cells_at s.world m.which) m.place c cell in
        let long = array-length p y len m.which m.made m.means_array made in
        let same = word-eq index m.place m.means_index in
        subst (λ z. z < len) (sym same) (subst (λ z. m.place < z) long within)

    -- so has the access
    pub access-inside : (q p : Path) (x y index len : ℕ) (more : List Value) → IsAccess (node_of g q x)
        → Tells g all s (Fired q x (Array p y ∷ Word index ∷ more))
        → Tells g all s (Fired p y (Word len ∷ [])) → index < len
    access-inside q p x y index len more is-access (i, num, out, ran, have) made = ⊎_elim fetch store (access-kind (node_of g q x) is-access)
      where
        fetch : (a j : ℕ) × (node_of g q x ≡ Fetch a j) → index < len
        fetch (a, j, e) =
            let k = kind-here g all args s reached q i x (Fetch a j) num e in
            let m = fetch-names i x a j (Array p y) (Word index) more num.0 k have in
            let there : (c : Cell) × (cell_at s.world m.which m.place ≡ Some c) =
            elim (cell-fetched i x a j (depth_of g s.world i x) (Array p y) (Word index) m k ran) [
              | inl w ↦ (Empty w.0, w.1)
              | inr w ↦
                  (Filled w.0 w.1, w.2)
            ] in
            named-inside i a j (depth_of g s.world i x) p y index len there.0 m made there.1

        store : (a j b : ℕ) × (node_of g q x ≡ Store a j b) → index < len
        store (a, j, b, e) =
            let k = kind-here g all args s reached q i x (Store a j b) num e in
            let m = store-names i x a j b (Array p y) (Word index) more num.0 k have in
            let w = store-word i x a j b k ran in
            named-inside i a j (depth_of g s.world i b) p y index len (Filled w.0 (site (activation_at s.world i).code x)) m made
            (cell-stored i x a j b (depth_of g s.world i b) w.0 (Array p y) (Word index) m k ran w.1)
