-- The messages on their way: what is sent stands behind them, and what arrives is taken out.
use Rattle.std.proofs.Common.{◌≡◌, ℕ, zero, suc, ◌+◌, ◌<◌, ◌≤◌, Bool, true, false, List, [], ◌∷◌, ◌++◌, refl, sym, subst, ap, ◌∙◌}
use Rattle.std.proofs.Common.{length, flat_map, slice_get, Some, arith}
use Rattle.std.proofs.lemmas.Option.{none-some, same_Some}
use Rattle.tam_word.specs.Lists.{any_of, below, has, without_place}
use Rattle.tam_word.proofs.Tests.{eq-number, differs-number}
use Rattle.tam_word.proofs.Members.{flat_map-none, below-in}
use Rattle.tam_msgs.specs.declared.message.Message.{Message}
use Rattle.tam_flow.specs.Journals.{State, on_their_way, or_message}

-- the messages from number n on that haven't arrived
abbrev pub way_from : List ℕ → ℕ → List Message → List Message
way_from arrived n [] = []
way_from arrived n (m ∷ ms) = elim (has arrived n) [ true ↦ way_from arrived (suc n) ms | false ↦ m ∷ way_from arrived (suc n) ms ]

-- and their numbers
abbrev pub numbers_from : List ℕ → ℕ → List Message → List ℕ
numbers_from arrived n [] = []
numbers_from arrived n (m ∷ ms) = elim (has arrived n) [ true ↦ numbers_from arrived (suc n) ms | false ↦ n ∷ numbers_from arrived (suc n) ms ]

-- ---- the definition's list is this one

-- a list with nothing behind
append-none : {X : Type 0} (xs : List X) → xs ++ [] ≡ xs
append-none [] = refl
append-none (x ∷ xs) = ap (λ l. x ∷ l) (append-none xs)

-- three lists joined
append-three : {X : Type 0} (xs ys zs : List X) → (xs ++ ys) ++ zs ≡ xs ++ (ys ++ zs)
append-three [] ys zs = refl
append-three (x ∷ xs) ys zs = ap (λ l. x ∷ l) (append-three xs ys zs)

-- one more
length-one : (xs : List Message) (y : Message) → length (xs ++ y ∷ []) ≡ suc (length xs)
length-one [] y = refl
length-one (x ∷ xs) y = ap suc (length-one xs y)

-- what stands behind a list
get-behind : (xs ys : List Message) (y : Message) → slice_get (xs ++ y ∷ ys) (length xs) ≡ Some y
get-behind [] ys y = refl
get-behind (x ∷ xs) ys y = get-behind xs ys y

-- lists of two lists' elements
flat_map-append : {X Y : Type 0} (f : X → List Y) (xs ys : List X) → flat_map f (xs ++ ys) ≡ flat_map f xs ++ flat_map f ys
flat_map-append f [] ys = refl
flat_map-append f (x ∷ xs) ys = ap (λ l. f x ++ l) (flat_map-append f xs ys) ∙ sym (append-three (f x) (flat_map f xs) (flat_map f ys))

-- what stands for message n, by the definition
abbrev one_way : List ℕ → List Message → ℕ → List Message
one_way arrived sent m = elim (has arrived m) [ true ↦ [] | false ↦ or_message (slice_get sent m) ]

-- the definition's list, first by its beginning and then as this one
way-split : (arrived : List ℕ) (sent pre ms : List Message) → pre ++ ms ≡ sent
    → flat_map (one_way arrived sent) (below (length pre)) ++ way_from arrived (length pre) ms ≡ flat_map (one_way arrived sent) (below (length sent))
way-split arrived sent pre [] e =
    append-none (flat_map (one_way arrived sent) (below (length pre)))
    ∙ ap (λ l. flat_map (one_way arrived sent) (below (length l))) (sym (append-none pre) ∙ e)
way-split arrived sent pre (m ∷ ms) e =
    sym step ∙ way-split arrived sent (pre ++ m ∷ []) ms (append-three pre (m ∷ []) ms ∙ e)
  where
    f : ℕ → List Message
    f x = one_way arrived sent x

    here : slice_get sent (length pre) ≡ Some m
    here = ap (λ l. slice_get l (length pre)) (sym e) ∙ get-behind pre ms m

    head : one_way arrived sent (length pre) ++ way_from arrived (suc (length pre)) ms ≡ way_from arrived (length pre) (m ∷ ms)
    head = go (has arrived (length pre)) refl
      where
        go : (t : Bool) → has arrived (length pre) ≡ t
            → one_way arrived sent (length pre) ++ way_from arrived (suc (length pre)) ms ≡ way_from arrived (length pre) (m ∷ ms)
        go true p = rw (one_way, way_from, p) refl
        go false p = rw (one_way, way_from, p, here) refl

    step : flat_map f (below (length (pre ++ m ∷ []))) ++ way_from arrived (length (pre ++ m ∷ [])) ms
        ≡ flat_map f (below (length pre)) ++ way_from arrived (length pre) (m ∷ ms)
    step =
        subst (λ n. flat_map f (below n) ++ way_from arrived n ms ≡ flat_map f (below (length pre)) ++ way_from arrived (length pre) (m ∷ ms))
        (sym (length-one pre m))
        (ap (λ l. l ++ way_from arrived (suc (length pre)) ms) (flat_map-append f (below (length pre)) (length pre ∷ []))
        ∙ (append-three (flat_map f (below (length pre))) (f (length pre) ++ []) (way_from arrived (suc (length pre)) ms)
        ∙ ap (λ l. flat_map f (below (length pre)) ++ l)
        (ap (λ l. l ++ way_from arrived (suc (length pre)) ms) (append-none (f (length pre))) ∙ head)))

-- the messages on their way, from the first on
pub way-is : (s : State) → on_their_way s ≡ way_from s.arrived 0 s.sent
way-is s = sym (way-split s.arrived s.sent [] s.sent refl)

-- ---- sending

-- of two lists
way-append : (arrived : List ℕ) (n : ℕ) (ms ns : List Message) → way_from arrived n (ms ++ ns) ≡ way_from arrived n ms ++ way_from arrived (n + length ms) ns
way-append arrived n [] ns = let e : n ≡ n + 0 = omega arith in ap (λ k. way_from arrived k ns) e
way-append arrived n (m ∷ ms) ns = go (has arrived n) refl (way-append arrived (suc n) ms ns)
  where
    go : (t : Bool) → has arrived n ≡ t → way_from arrived (suc n) (ms ++ ns) ≡ way_from arrived (suc n) ms ++ way_from arrived (suc n + length ms) ns
        → way_from arrived n (m ∷ (ms ++ ns)) ≡ way_from arrived n (m ∷ ms) ++ way_from arrived (n + suc (length ms)) ns
    go true p i =
        let e : suc n + length ms ≡ n + suc (length ms) = omega arith in
        rw (way_from, p) (subst (λ k. way_from arrived (suc n) (ms ++ ns) ≡ way_from arrived (suc n) ms ++ way_from arrived k ns) e i)
    go false p i =
        let e : suc n + length ms ≡ n + suc (length ms) = omega arith in
        rw (way_from, p) (ap (λ l. m ∷ l) (subst (λ k. way_from arrived (suc n) (ms ++ ns) ≡ way_from arrived (suc n) ms ++ way_from arrived k ns) e i))

-- where none from n on has arrived all are on their way
pub way-all : (arrived : List ℕ) (n : ℕ) (ms : List Message) → ((k : ℕ) → n ≤ k → has arrived k ≡ false) → way_from arrived n ms ≡ ms
way-all arrived n [] h = refl
way-all arrived n (m ∷ ms) h = rw (way_from, h n (omega arith)) (ap (λ l. m ∷ l) (way-all arrived (suc n) ms (λ k l. h k (omega arith))))

-- what is sent stands behind
pub way-sent : (arrived : List ℕ) (sent ms : List Message) → ((k : ℕ) → has arrived k ≡ true → k < length sent)
    → way_from arrived 0 (sent ++ ms) ≡ way_from arrived 0 sent ++ ms
way-sent arrived sent ms h =
    way-append arrived 0 sent ms ∙ ap (λ l. way_from arrived 0 sent ++ l) (way-all arrived (0 + length sent) ms (λ k l. not-yet k (omega arith)))
  where
    not-yet : (k : ℕ) → length sent ≤ k → has arrived k ≡ false
    not-yet k l = go (has arrived k) refl
      where
        go : (t : Bool) → has arrived k ≡ t → has arrived k ≡ false
        go true p = let m = h k p in absurd (omega arith)
        go false p = p

-- ---- arriving

-- another number that arrives changes nothing
has-other : (arrived : List ℕ) (k n : ℕ) → (k ≡ n → ⊥) → has (k ∷ arrived) n ≡ has arrived n
has-other arrived k n h = rw (has, any_of, differs-number k n h) refl

-- one before changes nothing
way-before : (arrived : List ℕ) (k n : ℕ) (ms : List Message) → k < n → way_from (k ∷ arrived) n ms ≡ way_from arrived n ms
way-before arrived k n [] l = refl
way-before arrived k n (m ∷ ms) l = go (has arrived n) refl (way-before arrived k (suc n) ms (omega arith))
  where
    go : (t : Bool) → has arrived n ≡ t → way_from (k ∷ arrived) (suc n) ms ≡ way_from arrived (suc n) ms → way_from (k ∷ arrived) n (m ∷ ms)
        ≡ way_from arrived n (m ∷ ms)
    go true p i = rw (way_from, has-other arrived k n (λ e. omega arith) ∙ p, p) i
    go false p i = rw (way_from, has-other arrived k n (λ e. omega arith) ∙ p, p) (ap (λ l. m ∷ l) i)

-- the message at place k: it was sent with a number that hasn't arrived, and once it has, it is taken out
pub record AtPlace (arrived : List ℕ) (n : ℕ) (ms : List Message) (k : ℕ) (m : Message) : Type 0 where
  pub number : ℕ
  pub from : n ≤ number
  pub was_sent : (j : ℕ) → n + j ≡ number → slice_get ms j ≡ Some m
  pub not_yet : has arrived number ≡ false
  pub taken_out : way_from (number ∷ arrived) n ms ≡ without_place k (way_from arrived n ms)
  pub stands : slice_get (numbers_from arrived n ms) k ≡ Some number

-- so it is
pub at-place : (arrived : List ℕ) (n : ℕ) (ms : List Message) (k : ℕ) (m : Message) → slice_get (way_from arrived n ms) k ≡ Some m → AtPlace arrived n ms k m
at-place arrived n [] k m h = absurd (none-some m h)
at-place arrived n (x ∷ ms) k m h = go (has arrived n) refl k h (λ i e. at-place arrived (suc n) ms i m e)
  where
    skip : (j : ℕ) → has arrived n ≡ true → AtPlace arrived (suc n) ms j m → AtPlace arrived n (x ∷ ms) j m
    skip j p r = record {
      number = r.number;
      from = let l = r.from in omega arith;
      was_sent = sent;
      not_yet = r.not_yet;
      taken_out = rw (way_from, has-other arrived r.number n (λ e. let l = r.from in omega arith) ∙ p, p) r.taken_out;
      stands = rw (numbers_from, p) r.stands;
    }
      where
        sent : (i : ℕ) → n + i ≡ r.number → slice_get (x ∷ ms) i ≡ Some m
        sent zero e = let l = r.from in absurd (omega arith)
        sent (suc i) e = r.was_sent i (omega arith)

    keep : (j : ℕ) → has arrived n ≡ false → AtPlace arrived (suc n) ms j m → AtPlace arrived n (x ∷ ms) (suc j) m
    keep j p r = record {
      number = r.number;
      from = let l = r.from in omega arith;
      was_sent = sent;
      not_yet = r.not_yet;
      taken_out = rw (way_from, has-other arrived r.number n (λ e. let l = r.from in omega arith) ∙ p, p) (ap (λ l. x ∷ l) r.taken_out);
      stands = rw (numbers_from, p) r.stands;
    }
      where
        sent : (i : ℕ) → n + i ≡ r.number → slice_get (x ∷ ms) i ≡ Some m
        sent zero e = let l = r.from in absurd (omega arith)
        sent (suc i) e = r.was_sent i (omega arith)

    first : has arrived n ≡ false → x ≡ m → AtPlace arrived n (x ∷ ms) 0 m
    first p q = record {
      number = n;
      from = omega arith;
      was_sent = λ j e. sent j (omega arith);
      not_yet = p;
      taken_out = gone;
      stands = rw (numbers_from, p) refl;
    }
      where
        sent : (j : ℕ) → j ≡ 0 → slice_get (x ∷ ms) j ≡ Some m
        sent zero e = ap Some q
        sent (suc j) e = absurd (omega arith)

        now : has (n ∷ arrived) n ≡ true
        now = rw (has, any_of, eq-number n n refl) refl

        gone : way_from (n ∷ arrived) n (x ∷ ms) ≡ without_place 0 (way_from arrived n (x ∷ ms))
        gone = rw (way_from, now, p) (way-before arrived n (suc n) ms (omega arith))

    go : (t : Bool) → has arrived n ≡ t → (i : ℕ) → slice_get (way_from arrived n (x ∷ ms)) i ≡ Some m
        → ((j : ℕ) → slice_get (way_from arrived (suc n) ms) j ≡ Some m → AtPlace arrived (suc n) ms j m) → AtPlace arrived n (x ∷ ms) i m
    go true p i e f = skip i p (f i (rw (way_from, p) at e))
    go false p zero e f = first p (same_Some x m (rw (way_from, p) at e))
    go false p (suc i) e f = keep i p (f i (rw (way_from, p) at e))

-- where none is on its way each has arrived
pub none-on_way : (s : State) → on_their_way s ≡ [] → (n : ℕ) → n < length s.sent → has s.arrived n ≡ true
none-on_way s h n l = go (has s.arrived n) refl (flat_map-none (one_way s.arrived s.sent) (below (length s.sent)) h n (below-in n (length s.sent) l))
  where
    there : (ms : List Message) (k : ℕ) → k < length ms → or_message (slice_get ms k) ≡ [] → ⊥
    there [] k b e = omega arith
    there (m ∷ ms) zero b e = cc
    there (m ∷ ms) (suc k) b e = there ms k (omega arith) e

    go : (t : Bool) → has s.arrived n ≡ t → one_way s.arrived s.sent n ≡ [] → has s.arrived n ≡ true
    go true p e = p
    go false p e = absurd (there s.sent n l (rw (one_way, p) at e))
