-- The events of a journal that a run makes: which numbers the messages on their way have, and lists of events joined.
use Rattle.std.proofs.Common.{◌≡◌, ℕ, suc, ◌+◌, Bool, true, false, not, List, [], ◌∷◌, ◌++◌, filter, length, refl, sym, ap, ◌∙◌, arith}
use Rattle.std.proofs.lemmas.List.Elements.{filter-append}
use Rattle.tam_word.specs.Lists.{below, has}
use Rattle.tam_graph.specs.Graphs.{Graph}
use Rattle.tam_msgs.specs.declared.message.Message.{Message}
use Rattle.tam_split.specs.GraphPartitions.{Partitions}
use Rattle.tam_flow.specs.Journals.{Event, State, state_from, after_event}
use Rattle.tam_flow.proofs.OnTheWay.{numbers_from}
use Rattle.tl0_keep.specs.ThreadJournals.{numbers_on_way}

-- a list with nothing behind
pub append-none : {X : Type 0} (xs : List X) → xs ++ [] ≡ xs
append-none [] = refl
append-none (x ∷ xs) = ap (λ l. x ∷ l) (append-none xs)

-- three lists joined
pub append-three : {X : Type 0} (xs ys zs : List X) → (xs ++ ys) ++ zs ≡ xs ++ (ys ++ zs)
append-three [] ys zs = refl
append-three (x ∷ xs) ys zs = ap (λ l. x ∷ l) (append-three xs ys zs)

-- the numbers that haven't arrived, by the messages
numbers-split : (arrived : List ℕ) (n : ℕ) (ms : List Message)
    → filter (λ k. not (has arrived k)) (below n) ++ numbers_from arrived n ms ≡ filter (λ k. not (has arrived k)) (below (n + length ms))
numbers-split arrived n [] =
    let e : n ≡ n + 0 = omega arith in
    append-none (filter (λ k. not (has arrived k)) (below n)) ∙ ap (λ k. filter (λ k. not (has arrived k)) (below k)) e
numbers-split arrived n (m ∷ ms) =
    let e : suc n + length ms ≡ n + suc (length ms) = omega arith in
    go (has arrived n) refl ∙ (numbers-split arrived (suc n) ms ∙ ap (λ k. filter (λ k. not (has arrived k)) (below k)) e)
  where
    front : List ℕ
    front = filter (λ k. not (has arrived k)) (below n)

    go : (t : Bool) → has arrived n ≡ t → filter (λ k. not (has arrived k)) (below n) ++ numbers_from arrived n (m ∷ ms)
        ≡ filter (λ k. not (has arrived k)) (below (suc n)) ++ numbers_from arrived (suc n) ms
    go true p = rw (numbers_from, p, filter-append (λ k. not (has arrived k)) (below n) (n ∷ []), p)
        (ap (λ l. l ++ numbers_from arrived (suc n) ms) (sym (append-none (filter (λ k. not (has arrived k)) (below n)))))
    go false p = rw (numbers_from, p, filter-append (λ k. not (has arrived k)) (below n) (n ∷ []), p)
        (sym (append-three (filter (λ k. not (has arrived k)) (below n)) (n ∷ []) (numbers_from arrived (suc n) ms)))

-- those of a state
pub numbers-are : (s : State) → numbers_on_way s ≡ numbers_from s.arrived 0 s.sent
numbers-are s = let e : 0 + length s.sent ≡ length s.sent = omega arith in
    sym (numbers-split s.arrived 0 s.sent ∙ ap (λ k. filter (λ k. not (has s.arrived k)) (below k)) e)

-- the state behind more events
pub state-append : (g : Graph) (all : Partitions) (s : State) (es fs : List Event) → state_from g all s (es ++ fs) ≡ state_from g all (state_from g all s es) fs
state-append g all s [] fs = refl
state-append g all s (e ∷ es) fs = state-append g all (after_event g all s e) es fs
