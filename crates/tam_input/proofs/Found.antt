-- What was read for a job, and why a job isn't answered, from what was read of its files.
use Rattle.std.proofs.Common.{◌≡◌, ◌≢◌, ℕ, zero, suc, ◌∷◌, ◌+◌, ◌≤◌, ◌<◌, ◌⊎◌, inl, inr, Bool, true, false, List, [], length, refl, sym, ap, subst, ◌∙◌, arith}
use Rattle.std.specs.Prelude.{Option, Some, None, Result, Ok, Err, IfOk, IfErr}
use Rattle.tam_edge.specs.Faults.{Rose, next_count, CountsReadWhole}
use Rattle.tam_edge.specs.Whole.{TellsTooLong, IsLonger}
use Rattle.tam_edge.specs.declared.whole.ReadError.{ReadError}
use Rattle.tam_edge.specs.declared.whole.ReadError.TheVariants as whole
use Rattle.tam_msgs.specs.declared.order.OrderError.{OrderError}
use Rattle.tam_msgs.specs.declared.order.OrderError.TheVariants as order
use Rattle.tam_msgs.specs.declared.item.Item.{Item}
use Rattle.tam_msgs.specs.Orders.{order_of}
use Rattle.tam_words.specs.declared.words_error.WordsError.{WordsError}
use Rattle.tam_words.specs.declared.words_error.WordsError.TheVariants as words
use Rattle.tam_words.specs.Tells.{Tells}
use Rattle.tam_words.specs.Jobs.{Asked, Job, JobParts}
use Rattle.tam_input.specs.declared.refusal.Refusal.{Refusal}
use Rattle.tam_input.specs.declared.refusal.Refusal.TheVariants as refusal
use Rattle.tam_input.specs.Told.{Files, Told, HasFailed, GivesEnds, count_up, Contents, Agrees, ForSome, OfSome}
use Rattle.tam_input.specs.Refusing.{IsOrder, from_words, from_file, Refuses, usage, order_failed, long_order, no_order, text_failed, too_long, wanted}
use Rattle.tam_input.specs.Refusing.{text_file, text_of, bytes_of, file_count, files_read, most_bytes, most_order_bytes}
use Rattle.tam_input.specs.Inputs.{Request, request_of, IsInput, IsReadOut, NamesFile, KeepsNamed, ReadsOut, RefusesFile, IsTextOf, RefusesText}
use Rattle.tam_input.specs.Inputs.{IsOrderIn, RefusesOrder, long, no_list, not_read, no_room, refusal_of, refusal_of_order, refusal_of_words}
use Rattle.tam_input.proofs.Contents.{told_or_none, told-agrees, put_in, put-here, put-other, put-agrees, order-kept, text-differs}

-- what holds of each value of a result holds of what follows from it
pub if-ok : {X E : Type 0} {P Q : X → Type 0} (r : Result X E) → ((x : X) → P x → Q x) → IfOk r P → IfOk r Q
if-ok (Ok x) f p = f x p
if-ok (Err e) f p = tt

-- and of each error
pub if-err : {X E : Type 0} {P Q : E → Type 0} (r : Result X E) → ((e : E) → P e → Q e) → IfErr r P → IfErr r Q
if-err (Ok x) f p = tt
if-err (Err e) f p = f e p

-- why words give no job is why it isn't answered
pub words-refused : (ask : Asked) (before : Told) (e : WordsError) → Tells ask e
    → ForSome before.left (λ contents. Refuses ask contents before before (refusal_of_words e))
words-refused ask before (words.Usage cause) told = (told_or_none before.left, told-agrees before.left, usage told refl)
words-refused ask before words.NoMemory told = (told_or_none before.left, told-agrees before.left, wanted 0 (omega arith) refl)

-- as many zeros
abbrev zeros : ℕ → List ℕ
zeros zero = []
zeros (suc n) = 0 ∷ zeros n

-- have that length
length-zeros : (n : ℕ) → length (zeros n) ≡ n
length-zeros zero = refl
length-zeros (suc n) = ap suc (length-zeros n)

-- why a file isn't read, by why it isn't read whole
pub file-refused : (before now : Told) (file : List ℕ) (most : ℕ) (e : ReadError) → TellsTooLong {T = ℕ} (before.left file) most (Err e)
    → CountsReadWhole {T = ℕ} (before.faults file) (now.faults file) (Err e) → RefusesFile before now file most (refusal_of e)
file-refused before now file most whole.Fault more counted = counted.1
file-refused before now file most whole.NoMemory more counted = tt
file-refused before now file most whole.TooLong more counted = go (before.left file) more
  where
    go : (l : Option (List ℕ)) → IsLonger l most → OfSome l (λ bytes. most < length bytes)
    go None h = (zeros (suc most), tt, subst (λ n. most < n) (sym (length-zeros (suc most))) (omega arith))
    go (Some bytes) h = (bytes, refl, h)

-- why it has no order list, by why it isn't read
pub order-unread : (before now : Told) (file : List ℕ) (r : Refusal) → RefusesFile before now file most_order_bytes r → GivesEnds before now 0
    → RefusesOrder before now file r
order-unread before now file refusal.TooLong h ends = long h ends
order-unread before now file refusal.NotRead h ends = not_read h ends
order-unread before now file refusal.NoMemory h ends = no_room 0 (omega arith) ends
order-unread before now file (refusal.Usage cause) h ends = absurd h

-- or by its bytes
pub list-refused : (before now : Told) (file bytes : List ℕ) (e : OrderError) → OfSome (before.left file) (λ content. bytes ≡ content)
    → length bytes ≤ most_order_bytes → ((place : ℕ) → e ≡ order.Bad place → order_of bytes ≡ Err place) → GivesEnds before now 1
    → RefusesOrder before now file (refusal_of_order e)
list-refused before now file bytes (order.Bad place) read few bad ends =
    no_list (read.0, read.1, (subst (λ b. length b ≤ most_order_bytes) read.2 few, (place, subst (λ b. order_of b ≡ Err place) read.2 (bad place refl)))) ends
list-refused before now file bytes order.NoMemory read few bad ends = no_room 1 (omega arith) ends

-- some contents that agree, where one file has the bytes that were read of it
one : (left : Files) (file : List ℕ) {P : List ℕ → Type 0} → OfSome (left file) P → (x : Contents) × Agrees left x × P (x file)
one left file {P} (bytes, content, p) = (
  put_in (told_or_none left) file bytes,
  put-agrees (told_or_none left) file bytes left (told-agrees left) content,
  subst P (sym (put-here (told_or_none left) file bytes)) p,
)

-- the count of ends behind two files
pub ends-behind : (before mid now : Told) (a b : Option (List ℕ)) → GivesEnds before mid (file_count b) → GivesEnds mid now (file_count a)
    → GivesEnds before now (file_count a + file_count b)
ends-behind before mid now None None g h = h ∙ g
ends-behind before mid now None (Some f) g h = h ∙ g
ends-behind before mid now (Some e) None g h = h ∙ ap next_count g
ends-behind before mid now (Some e) (Some f) g h = h ∙ ap next_count g

module _ (job : JobParts) (before : Told) where
  -- the order list of its words
  pub words-found : job.order_file ≡ None → ForSome before.left (λ contents. IsOrder job contents job.order)
  words-found is = (told_or_none before.left, told-agrees before.left, from_words is)

  -- the order list of a file is the job's
  pub order-found : (file : List ℕ) → job.order_file ≡ Some file → (order : List Item) → IsOrderIn (before.left file) order
      → ForSome before.left (λ contents. IsOrder job contents order)
  order-found file is order read = let c = one before.left file read in (c.0, c.1, from_file is c.2.0 c.2.1)

  -- why the file has none is why the job isn't answered
  pub order-refused : (now : Told) (file : List ℕ) → job.order_file ≡ Some file → (r : Refusal) → RefusesOrder before now file r
      → ForSome before.left (λ contents. Refuses (Job job) contents before now r)
  order-refused now file is refusal.TooLong (long more ends) =
      let c = one before.left file more in (c.0, c.1, long_order refl is c.2 ends)
  order-refused now file is (refusal.Usage cause) (no_list none ends) =
      let c = one before.left file none in (c.0, c.1, no_order refl is c.2.0 c.2.1.1 ends)
  order-refused now file is refusal.NotRead (not_read rose ends) =
      (told_or_none before.left, told-agrees before.left, order_failed refl is rose ends)
  order-refused now file is refusal.NoMemory (no_room n few ends) =
      (told_or_none before.left, told-agrees before.left, wanted n (at-most is few) ends)
    where
      at-most : job.order_file ≡ Some file → n ≤ 1 → n ≤ files_read job
      at-most is few = let one-file : file_count job.order_file ≡ 1 = ap file_count is in omega (arith, few, one-file)

  module _ (mid now : Told) (order : List Item) (found : ForSome before.left (λ contents. IsOrder job contents order))
      (order-ends : GivesEnds before mid (file_count job.order_file))
      (others : (file : List ℕ) → ¬ (job.order_file ≡ Some file) → mid.left file ≡ before.left file)
      (no-fault : (file : List ℕ) → mid.faults file ≡ before.faults file) where
    -- of the file whose text is read all is left behind the order file
    left-text : (text : List ℕ) → text_file job ≡ Some text → mid.left text ≡ before.left text
    left-text text is = others text (λ same. text-differs job text text is same refl)

    -- contents that agree, where the text has the bytes that were read of it
    both : (text : List ℕ) → text_file job ≡ Some text → {P : List ℕ → Type 0} → OfSome (mid.left text) P
        → (x : Contents) × Agrees before.left x × IsOrder job x order × P (x text)
    both text is {P} read =
        let at : OfSome (before.left text) P = subst (λ l. OfSome l P) (left-text text is) read in
        let c = found.0 in (
          put_in c text at.0,
          put-agrees c text at.0 before.left found.1 at.1,
          order-kept job c (put_in c text at.0) order (λ file named. put-other c text at.0 file
              (λ same. text-differs job text file is named (sym same))) found.2,
          subst P (sym (put-here c text at.0)) at.2,
        )

    -- what was read is the job's text
    pub input-found : (bytes : List ℕ) → IsTextOf mid.left (text_file job) bytes → length bytes ≤ most_bytes job.mode
        → GivesEnds mid now (file_count (text_file job)) → ForSome before.left (λ contents. IsInput (Job job) contents before now (request_of job order) bytes)
    input-found bytes read few text-ends = go (text_file job) refl read
      where
        input : (x : Contents) → IsOrder job x order → text_of job x ≡ bytes → IsInput (Job job) x before now (request_of job order) bytes
        input x ordered text = record {
          job = job;
          order = order;
          asked = refl;
          same = refl;
          ordered = ordered;
          text = text;
          few = few;
          to_end = ends-behind before mid now (text_file job) job.order_file order-ends text-ends;
        }

        go : (o : Option (List ℕ)) → text_file job ≡ o → IsTextOf mid.left o bytes
            → ForSome before.left (λ contents. IsInput (Job job) contents before now (request_of job order) bytes)
        go None is none = (found.0, found.1, input found.0 found.2 (ap (bytes_of found.0) is ∙ sym none))
        go (Some text) is read = let c = both text is read in (c.0, c.1, input c.0 c.2 (ap (bytes_of c.0) is ∙ sym c.3))

    -- why it wasn't read is why the job isn't answered
    pub input-refused : GivesEnds mid now 0 → (r : Refusal) → RefusesText mid now (text_file job) (most_bytes job.mode) r
        → ForSome before.left (λ contents. Refuses (Job job) contents before now r)
    input-refused none r h = go (text_file job) refl r h
      where
        ends : GivesEnds before now (file_count job.order_file)
        ends = none ∙ order-ends

        go : (o : Option (List ℕ)) → text_file job ≡ o → (r : Refusal) → RefusesText mid now o (most_bytes job.mode) r
            → ForSome before.left (λ contents. Refuses (Job job) contents before now r)
        go None is r h = absurd h
        go (Some text) is refusal.TooLong h = let c = both text is h in (c.0, c.1, too_long refl c.2 is c.3 ends)
        go (Some text) is refusal.NotRead h =
            (found.0, found.1, text_failed refl found.2 is (subst (λ n. Rose n (now.faults text)) (no-fault text) h) ends)
        go (Some text) is refusal.NoMemory h = (found.0, found.1, wanted (file_count job.order_file) (omega arith) ends)
        go (Some text) is (refusal.Usage cause) h = absurd h

    -- each file of the job was read out
    pub all-out : ReadsOut (λ file. job.order_file ≡ Some file) before.left mid.left → ReadsOut (λ file. text_file job ≡ Some file) mid.left now.left
        → ((file : List ℕ) → ¬ (text_file job ≡ Some file) → now.left file ≡ mid.left file) → ReadsOut (NamesFile job) before.left now.left
    all-out order-out text-out rest file (inl is) =
        subst (λ l. IsReadOut (before.left file) l) (sym (rest file (λ text. text-differs job file file text is refl))) (order-out file is)
    all-out order-out text-out rest file (inr is) = subst (λ l. IsReadOut l (now.left file)) (left-text file is) (text-out file is)

-- what is left of the files behind the order file and the text
module _ (job : JobParts) (before mid now : Told) where
  pub both-keep : (Failed : Type 0) (text : Option (List ℕ)) → text ≡ text_file job → KeepsNamed (λ file. job.order_file ≡ Some file) before mid ⊥
      → KeepsNamed (λ file. text ≡ Some file) mid now Failed → KeepsNamed (NamesFile job) before now Failed
  both-keep Failed text is first second = record {
    other_left = λ file none. second.other_left file (λ e. none (inr (sym is ∙ e))) ∙ first.other_left file (λ e. none (inl e));
    other_faults = λ file none. second.other_faults file (λ e. none (inr (sym is ∙ e))) ∙ first.other_faults file (λ e. none (inl e));
    counted = λ failed.
        let s = second.counted failed in
        (s.0, inr (sym is ∙ s.1), subst (λ n. Rose n (now.faults s.0)) (first.uncounted (λ none. none) s.0) s.2);
    uncounted = λ fine file. second.uncounted fine file ∙ first.uncounted (λ none. none) file;
  }
