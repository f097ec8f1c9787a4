-- Thread code of small graphs, its faults and its runs, by computation.
-- The rule in words: docs/THREADS.md, "From graph to threads".
use Rattle.std.specs.Prelude.{◌≡◌, ℕ, refl, List, [], ◌∷◌, Some, None, map}
use Rattle.tam_word.specs.declared.op.Op.TheVariants.{Add}
use Rattle.tam_word.specs.Lists.{below}
use Rattle.tam_graph.specs.declared.kind.Kind.TheVariants.{Param, Const, Op as Operator, Call, Arg, Ret, Give, Cond, Switch as Choose, Merge, Enter, Leave}
use Rattle.tam_msgs.specs.declared.item.Item.{Item}
use Rattle.tam_msgs.specs.declared.item.Item.TheVariants.{Ready, Place}
use Rattle.tam_msgs.specs.Runs.{End, Quiet, Double_write, Frames_full, Budget_spent}
use Rattle.tam_graph.specs.Graphs.{Graph, code_of, main_name}
use Rattle.tam_graph.specs.ExampleGraphs.{plain, sum_graph, back_graph, loop_graph, cell_graph, twice_graph, calls_itself, nothing_graph}
use Rattle.tam_split.specs.Blocks.{block_graph}
use Rattle.tam_split.specs.Partitions.{partition_of}
use Rattle.tl0_code.specs.declared.inlet.Inlet.{Inlet}
use Rattle.tl0_code.specs.declared.instr.Instr.{Instr}
use Rattle.tl0_code.specs.declared.instr.Instr.TheVariants.{Imm, Mov, Op as Operate, Fork, Switch, Ret, Skip}
use Rattle.tl0_code.specs.ThreadCode.{Thread, plain as without_skips}
use Rattle.tl0_code.specs.Machines.{Plain, Owing, Giving}
use Rattle.tl0_code.specs.ThreadRuns.{thread_told}
use Rattle.tl0_code.specs.CodeRules.{first_fault}
use Rattle.tl0_code.specs.RunExamples.{end_with}
use Rattle.tl0_keep.specs.Compiled.{compiled, once, skipped_at}

-- an inlet
abbrev pub into : ℕ → ℕ → Inlet
into s t = record { slot = s; thread = t }

-- a thread that n forks and posts start
abbrev pub after : ℕ → List Instr → Thread
after n is = record { count = n; instrs = is }

sum_code : compiled sum_graph ≡ record {
  main = 0;
  codes =
      record { params = 2; results = 1; slots = 5; inlets = into 2 1 ∷ into 3 1 ∷ []; threads = once [] ∷ after 2 (Operate Add 4 2 3 ∷ Ret 0 4 ∷ []) ∷ [] } ∷
      [];
}
unfolding compiled
sum_code = refl

loop_code : compiled loop_graph ≡ record {
  main = 0;
  codes =
      record {
        params = 2;
        results = 1;
        slots = 13;
        inlets = into 2 1 ∷ into 3 2 ∷ [];
        threads =
            once [] ∷ once (Switch 2 9 10 ∷ Fork 2 ∷ Fork 3 ∷ []) ∷ after 2 (Switch 2 11 12 ∷ []) ∷ after 2 (Switch 2 13 14 ∷ []) ∷ once (Ret 0 12 ∷ [])
            ∷ once (Imm 6 1 ∷ Operate Add 7 4 6 ∷ Mov 11 7 ∷ Fork 3 ∷ Fork 6 ∷ []) ∷ after 2 (Operate Add 8 5 7 ∷ Mov 12 8 ∷ Fork 4 ∷ [])
            ∷ once (Mov 11 9 ∷ Fork 3 ∷ []) ∷ once (Mov 12 10 ∷ Fork 4 ∷ []) ∷ once (Skip 5 ∷ []) ∷ once (Skip 5 ∷ [])
            ∷ once (Mov 4 3 ∷ Fork 5 ∷ []) ∷ once (Mov 9 3 ∷ Fork 7 ∷ []) ∷ once (Mov 5 11 ∷ Fork 6 ∷ []) ∷ once (Mov 10 11 ∷ Fork 8 ∷ []) ∷ [];
      } ∷ [];
}
unfolding compiled
loop_code = refl

-- the printed results, the end, the events and the activations
thread_end : Graph → List ℕ → List Item → (List (ℕ × ℕ)) × End × ℕ × ℕ
thread_end g args order = (let r = thread_told (compiled g) args order (record { budget = 40; frames = 2; cells = 16 }) in
    (r.printed, r.how, r.events, r.activations))

sum_run : thread_end sum_graph (2 ∷ 3 ∷ []) [] ≡ ((0, 5) ∷ [], Quiet, 5, 1)
unfolding thread_end compiled
sum_run = refl

back_run : thread_end back_graph (4 ∷ []) [] ≡ ((0, 10) ∷ [], Quiet, 17, 2)
unfolding thread_end compiled
back_run = refl

loop_run : thread_end loop_graph (1 ∷ 4 ∷ []) [] ≡ ((0, 10) ∷ [], Quiet, 13, 1)
unfolding thread_end compiled
loop_run = refl

loop_run_else : thread_end loop_graph (0 ∷ 4 ∷ []) [] ≡ ((0, 4) ∷ [], Quiet, 13, 1)
unfolding thread_end compiled
loop_run_else = refl

cell_run : thread_end cell_graph (9 ∷ []) [] ≡ ((0, 9) ∷ [], Quiet, 12, 1)
unfolding thread_end compiled
cell_run = refl

cell_run_store_first : thread_end cell_graph (9 ∷ []) (Ready ∷ Ready ∷ Place 0 ∷ Place 0 ∷ Place 0 ∷ Ready ∷ Ready ∷ Place 1 ∷ []) ≡ ((0, 9) ∷ [], Quiet, 12, 1)
unfolding thread_end compiled
cell_run_store_first = refl

twice_run : thread_end twice_graph (9 ∷ []) [] ≡ ([], Double_write 5 4, 10, 1)
unfolding thread_end compiled
twice_run = refl

twice_run_late : thread_end twice_graph (9 ∷ []) (Ready ∷ Ready ∷ Place 0 ∷ Place 0 ∷ Place 0 ∷ Ready ∷ Ready ∷ Place 0 ∷ Place 0 ∷ Place 1 ∷ Ready ∷ Place 1
    ∷ []) ≡ ((0, 1) ∷ [], Double_write 5 4, 13, 1)
unfolding thread_end compiled
twice_run_late = refl

-- ---- frames are given back

-- main calls itself: each frame is given back once its answer has come, so with two it goes on
one_after_another : thread_end calls_itself [] [] ≡ ([], Budget_spent 40, 40, 9)
unfolding thread_end compiled
one_after_another = refl

-- r = call g with x; where r isn't 0, call g again, with r; else r; and the code g, which adds 1
abbrev pub twice_calling : Graph
twice_calling = record {
  codes = record {
    name = main_name;
    nodes =
        plain 0 (Param 0) ∷ plain 0 (Call 1) ∷ plain 0 (Arg 1 0 0) ∷ plain 0 (Ret 1 0) ∷ plain 0 (Cond 3 1 2)
        ∷ plain 1 (Enter 0) ∷ plain 1 (Call 1) ∷ plain 1 (Arg 6 0 5) ∷ plain 1 (Ret 6 0) ∷ plain 1 (Leave 0 8)
        ∷ plain 2 (Enter 0) ∷ plain 2 (Leave 0 10) ∷ plain 0 (Choose 4 0 3) ∷ plain 0 (Merge 4 0) ∷ plain 0 (Give 0 13) ∷ [];
    owners = None ∷ Some 4 ∷ Some 4 ∷ [];
  } ∷ record {
    name = main_name;
    nodes = map (plain 0) (Param 0 ∷ Const 1 ∷ Operator Add 0 1 ∷ Give 0 2 ∷ []);
    owners = None ∷ [];
  } ∷ [];
  main = 0;
}

-- three activations begin, and no more than two are live
three_in_two : end_with Giving (compiled twice_calling) (4 ∷ []) 2 ≡ ((0, 6) ∷ [], Quiet, 24, 3)
unfolding compiled
three_in_two = refl

not_in_one : end_with Giving (compiled twice_calling) (4 ∷ []) 1 ≡ ([], Frames_full 1, 4, 1)
unfolding compiled
not_in_one = refl

-- without a stated count of frames, and with the skips left out, the run has the same events
three_owing : end_with Owing (compiled twice_calling) (4 ∷ []) 1 ≡ ((0, 6) ∷ [], Quiet, 24, 3)
unfolding compiled
three_owing = refl

three_plain : end_with Plain (without_skips (compiled twice_calling)) (4 ∷ []) 1 ≡ ((0, 6) ∷ [], Quiet, 24, 3)
unfolding compiled
three_plain = refl

-- what is skipped at the connectors of its cond: a block with a call of a param, and one without
skips_of_it : map (skipped_at (code_of twice_calling 0) (map (λ b. partition_of (block_graph (code_of twice_calling 0) b)) (below 3)) 4) (2 ∷ 1 ∷ []) ≡ 3 ∷ 5
    ∷ []
skips_of_it = refl

-- ---- faults

no_faults : map (λ g. first_fault (compiled g)) (sum_graph ∷ back_graph ∷ loop_graph ∷ cell_graph ∷ twice_graph ∷ calls_itself ∷ nothing_graph ∷ [])
    ≡ None ∷ None ∷ None ∷ None ∷ None ∷ None ∷ None ∷ []
unfolding compiled
no_faults = refl
