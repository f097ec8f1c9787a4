-- The kernel's instructions are in range, so the kernel stands where the image's words stand, and each of its parts at its place.
use Rattle.std.proofs.Common.{◌≡◌, ℕ, ◌+◌, ◌<◌, ◌≤◌, List, ◌++◌, length, map, refl, ap, ◌∙◌, arith, subst, inl, inr}
use Rattle.std.proofs.lemmas.List.{map-append, append_assoc}
use Rattle.rv_inst.specs.declared.inst.Inst.{Inst}
use Rattle.rv_inst.specs.Instructions.{encoded}
use Rattle.rv_inst.specs.Steps.{HoldsWords, Stands}
use Rattle.rv_inst.proofs.Memory.{stands-split, stands-written}
use Rattle.rv_keep.specs.KernelPlaces.{rest_at, poll_at, begin_at, fill_at, deliver_at, post_at, run_at, stop_at, clear_at, kernel_end}
use Rattle.rv_keep.specs.KernelSteps.{KernelStands}
use Rattle.rv_inst.specs.Harts.{written_at}
use Rattle.rv_keep.specs.Kernel.{opening, resting, polling, beginning, filling, delivering, post, running, stopping, clearing, kernel}
use Rattle.rv_keep.proofs.Standing.{AllInRange, holds-stand}
use Rattle.rv_keep.proofs.InRange.{high-below, low-signed, all-joined}

-- the opening
opening-ranged : (frames stride table main : ℕ) → main < 2048 → AllInRange (opening frames stride table main)
opening-ranged frames stride table main h = (
  (omega arith, high-below frames),
  (
    (omega arith, omega arith, low-signed frames),
    (
      (omega arith, high-below stride),
      (
        (omega arith, omega arith, low-signed stride),
        (
          (omega arith, high-below table),
          (
            (omega arith, omega arith, low-signed table),
            (
              (omega arith, omega arith, inl (omega arith)),
              (
                (omega arith, omega arith, inl (omega arith)),
                (
                  (omega arith, omega arith, inl (omega arith)),
                  (
                    (omega arith, omega arith, inl (omega arith)),
                    (
                      (omega arith, omega arith, inl h),
                      (
                        (omega arith, omega arith, inr (omega arith, omega arith)),
                        ((omega arith, omega arith, inl (omega arith)), ((omega arith, inl (omega arith), refl), tt)),
                      ),
                    ),
                  ),
                ),
              ),
            ),
          ),
        ),
      ),
    ),
  ),
)

-- the end of a thread
resting-ranged : AllInRange resting
resting-ranged = (
  (omega arith, omega arith, inl (omega arith)),
  (
    (omega arith, omega arith, inl (omega arith), refl),
    ((omega arith, omega arith, inl (omega arith)), tt),
  ),
)

-- the poll
polling-ranged : AllInRange polling
polling-ranged = (
  (omega arith, omega arith, omega arith),
  (
    (omega arith, omega arith, inl (omega arith)),
    (
      tt,
      (
        (omega arith, omega arith, inr (omega arith, omega arith), refl),
        (
          (omega arith, omega arith, inl (omega arith)),
          (
            (omega arith, omega arith, inl (omega arith), refl),
            ((omega arith, omega arith, inl (omega arith)), ((omega arith, omega arith, inl (omega arith), refl), tt)),
          ),
        ),
      ),
    ),
  ),
)

-- the beginning of a frame
beginning-ranged : AllInRange beginning
beginning-ranged = (
  (omega arith, omega arith, omega arith),
  (
    (omega arith, omega arith, omega arith),
    (
      (omega arith, omega arith, omega arith),
      (
        (omega arith, omega arith, omega arith),
        (
          (omega arith, omega arith, inl (omega arith)),
          (
            (omega arith, omega arith, inl (omega arith)),
            (
              (omega arith, omega arith, inl (omega arith)),
              (
                (omega arith, omega arith, inl (omega arith)),
                (
                  (omega arith, omega arith, inl (omega arith)),
                  (
                    (omega arith, omega arith, inl (omega arith)),
                    (
                      (omega arith, omega arith, inl (omega arith)),
                      (
                        (omega arith, omega arith, inl (omega arith)),
                        (
                          (omega arith, omega arith, omega arith),
                          (
                            (omega arith, omega arith, inl (omega arith)),
                            ((omega arith, inl (omega arith), refl), tt),
                          ),
                        ),
                      ),
                    ),
                  ),
                ),
              ),
            ),
          ),
        ),
      ),
    ),
  ),
)

-- the filling in of its counts
filling-ranged : AllInRange filling
filling-ranged = (
  (omega arith, omega arith, inl (omega arith)),
  (
    (omega arith, omega arith, inl (omega arith)),
    (
      (omega arith, omega arith, inl (omega arith)),
      (
        (omega arith, omega arith, inl (omega arith)),
        (
          (omega arith, omega arith, inl (omega arith)),
          (
            (omega arith, omega arith, inl (omega arith)),
            (
              (omega arith, omega arith, inr (omega arith, omega arith)),
              ((omega arith, omega arith, inr (omega arith, omega arith), refl), ((omega arith, inl (omega arith), refl), tt)),
            ),
          ),
        ),
      ),
    ),
  ),
)

-- the delivery of a word
delivering-ranged : AllInRange delivering
delivering-ranged = (
  (omega arith, omega arith, omega arith),
  (
    (omega arith, omega arith, omega arith),
    (
      (omega arith, omega arith, inl (omega arith)),
      (
        (omega arith, omega arith, omega arith),
        (
          (omega arith, omega arith, omega arith),
          (
            (omega arith, omega arith, inl (omega arith)),
            (
              (omega arith, omega arith, omega arith),
              (
                (omega arith, omega arith, inl (omega arith)),
                (
                  (omega arith, omega arith, inl (omega arith)),
                  (
                    (omega arith, omega arith, omega arith),
                    (
                      (omega arith, omega arith, inl (omega arith)),
                      ((omega arith, inl (omega arith), refl), ((omega arith, inr (omega arith, omega arith), refl), tt)),
                    ),
                  ),
                ),
              ),
            ),
          ),
        ),
      ),
    ),
  ),
)

-- the routine that spends a count
post-ranged : AllInRange post
post-ranged = (
  (omega arith, omega arith, inl (omega arith)),
  (
    (omega arith, omega arith, inr (omega arith, omega arith)),
    (
      (omega arith, omega arith, inl (omega arith)),
      (
        (omega arith, omega arith, inl (omega arith), refl),
        (
          (omega arith, omega arith, inl (omega arith)),
          (
            (omega arith, omega arith, inl (omega arith)),
            (
              (omega arith, omega arith, inl (omega arith)),
              (
                (omega arith, omega arith, inl (omega arith)),
                (
                  (omega arith, omega arith, inl (omega arith), refl),
                  (
                    (omega arith, omega arith, inl (omega arith), refl),
                    (
                      (omega arith, omega arith, inl (omega arith)),
                      (
                        (omega arith, omega arith, inl (omega arith), refl),
                        (
                          (omega arith, omega arith, inl (omega arith)),
                          (
                            (omega arith, inl (omega arith), refl),
                            (
                              (omega arith, omega arith, inl (omega arith)),
                              ((omega arith, omega arith, inl (omega arith)), ((omega arith, omega arith, inl (omega arith)), tt)),
                            ),
                          ),
                        ),
                      ),
                    ),
                  ),
                ),
              ),
            ),
          ),
        ),
      ),
    ),
  ),
)

-- the run of a thread
running-ranged : AllInRange running
running-ranged = (
  (omega arith, omega arith, inl (omega arith), refl),
  (
    (omega arith, omega arith, inl (omega arith)),
    (
      (omega arith, omega arith, inl (omega arith)),
      (
        (omega arith, omega arith, inl (omega arith), refl),
        (
          (omega arith, omega arith, inl (omega arith)),
          (
            (omega arith, omega arith, inl (omega arith)),
            (
              (omega arith, omega arith, inl (omega arith)),
              (
                (omega arith, omega arith, inl (omega arith)),
                (
                  (omega arith, omega arith, inl (omega arith)),
                  ((omega arith, omega arith, inl (omega arith)), tt),
                ),
              ),
            ),
          ),
        ),
      ),
    ),
  ),
)

-- the stop of a thread
stopping-ranged : AllInRange stopping
stopping-ranged = (
  (omega arith, omega arith, inl (omega arith)),
  (
    (omega arith, omega arith, inr (omega arith, omega arith)),
    (
      (omega arith, omega arith, inl (omega arith)),
      (
        (omega arith, omega arith, inr (omega arith, omega arith), refl),
        (
          (omega arith, omega arith, inl (omega arith)),
          ((omega arith, omega arith, inl (omega arith)), (tt, ((omega arith, inr (omega arith, omega arith), refl), tt))),
        ),
      ),
    ),
  ),
)

-- the filling in of what a frame owes and of its slots
clearing-ranged : AllInRange clearing
clearing-ranged = (
  (omega arith, omega arith, inl (omega arith)),
  (
    (omega arith, omega arith, inl (omega arith)),
    (
      (omega arith, omega arith, inl (omega arith)),
      (
        (omega arith, omega arith, inl (omega arith), refl),
        (
          (omega arith, omega arith, inl (omega arith)),
          (
            (omega arith, omega arith, inl (omega arith)),
            (
              (omega arith, inr (omega arith, omega arith), refl),
              ((omega arith, inr (omega arith, omega arith), refl), tt),
            ),
          ),
        ),
      ),
    ),
  ),
)

-- the parts behind the opening, from each on
abbrev pub from_clearing : List Inst
from_clearing = clearing

-- from the stop of a thread on
abbrev pub from_stopping : List Inst
from_stopping = stopping ++ from_clearing

-- from the run of a thread on
abbrev pub from_running : List Inst
from_running = running ++ from_stopping

-- from the routine that spends a count on
abbrev pub from_post : List Inst
from_post = post ++ from_running

-- from the delivery of a word on
abbrev pub from_delivering : List Inst
from_delivering = delivering ++ from_post

-- from the filling in of its counts on
abbrev pub from_filling : List Inst
from_filling = filling ++ from_delivering

-- from the beginning of a frame on
abbrev pub from_beginning : List Inst
from_beginning = beginning ++ from_filling

-- from the poll on
abbrev pub from_polling : List Inst
from_polling = polling ++ from_beginning

-- from the end of a thread on
abbrev pub from_resting : List Inst
from_resting = resting ++ from_polling

-- the kernel, where `main` is one of the first 2,048 codes
pub kernel-ranged : (frames stride table main : ℕ) → main < 2048 → AllInRange (kernel frames stride table main)
kernel-ranged frames stride table main h =
    let stop_r : AllInRange from_stopping = all-joined stopping from_clearing stopping-ranged clearing-ranged in
    let runn_r : AllInRange from_running = all-joined running from_stopping running-ranged stop_r in
    let post_r : AllInRange from_post = all-joined post from_running post-ranged runn_r in
    let deli_r : AllInRange from_delivering = all-joined delivering from_post delivering-ranged post_r in
    let fill_r : AllInRange from_filling = all-joined filling from_delivering filling-ranged deli_r in
    let begi_r : AllInRange from_beginning = all-joined beginning from_filling beginning-ranged fill_r in
    let poll_r : AllInRange from_polling = all-joined polling from_beginning polling-ranged begi_r in
    let rest_r : AllInRange from_resting = all-joined resting from_polling resting-ranged poll_r in
    all-joined (opening frames stride table main) from_resting (opening-ranged frames stride table main h) rest_r

-- the kernel stands at the start of memory that begins with its words
pub kernel-stands : (memory : List ℕ) (frames stride table main : ℕ) (is : List Inst) (ws : List ℕ) → main < 2048
    → HoldsWords memory 0 (map encoded (kernel frames stride table main ++ is) ++ ws) → Stands memory 0 (kernel frames stride table main)
kernel-stands memory frames stride table main is ws l h =
    let k : List Inst = kernel frames stride table main in
    let e : map encoded (k ++ is) ++ ws ≡ map encoded k ++ (map encoded is ++ ws) =
    ap (λ (x : List ℕ). x ++ ws) (map-append encoded k is) ∙ append_assoc (map encoded k) (map encoded is) ws in
    holds-stand memory 0 k (map encoded is ++ ws) (subst (λ (x : List ℕ). HoldsWords memory 0 x) e h) (kernel-ranged frames stride table main l) (omega arith)

-- each part stands at its place where the kernel stands
pub parts-stand : (memory : List ℕ) (frames stride table main : ℕ) → Stands memory 0 (kernel frames stride table main) → KernelStands memory
parts-stand memory frames stride table main s =
    let s0 = stands-split memory 0 (opening frames stride table main) from_resting s in
    let s1 = stands-split memory rest_at resting from_polling s0.1 in
    let s2 = stands-split memory poll_at polling from_beginning s1.1 in
    let s3 = stands-split memory begin_at beginning from_filling s2.1 in
    let s4 = stands-split memory fill_at filling from_delivering s3.1 in
    let s5 = stands-split memory deliver_at delivering from_post s4.1 in
    let s6 = stands-split memory post_at post from_running s5.1 in
    let s7 = stands-split memory run_at running from_stopping s6.1 in
    let s8 = stands-split memory stop_at stopping from_clearing s7.1 in
    record {
      rests = s1.0;
      polls = s2.0;
      begins = s3.0;
      fills = s4.0;
      delivers = s5.0;
      posts = s6.0;
      runs = s7.0;
      stops = s8.0;
      clears = s8.1;
    }

-- they do after a write behind the kernel
pub kernel-still : (m : List ℕ) (a w : ℕ) → KernelStands m → kernel_end ≤ a → a + 4 ≤ length m → KernelStands (written_at m a 4 w)
kernel-still m a w k b l = record {
  rests = stands-written m a w rest_at resting (omega arith) l k.rests;
  polls = stands-written m a w poll_at polling (omega arith) l k.polls;
  begins = stands-written m a w begin_at beginning (omega arith) l k.begins;
  fills = stands-written m a w fill_at filling (omega arith) l k.fills;
  delivers = stands-written m a w deliver_at delivering (omega arith) l k.delivers;
  posts = stands-written m a w post_at post (omega arith) l k.posts;
  runs = stands-written m a w run_at running (omega arith) l k.runs;
  stops = stands-written m a w stop_at stopping (omega arith) l k.stops;
  clears = stands-written m a w clear_at clearing b l k.clears;
}
