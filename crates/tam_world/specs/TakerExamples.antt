-- The takers and the nodes of blocks of small codes, by computation.
use Rattle.std.specs.Prelude.{◌≡◌, refl, [], ◌∷◌}
use Rattle.tam_graph.specs.ExampleGraphs.{back_main, back_callee, loop_main}
use Rattle.tam_world.specs.Takers.{takers_of, firers_in, starters_of}

-- a cond's test is taken by the cond and by its switches
cond_takers : takers_of loop_main 0 ≡ 2 ∷ 14 ∷ 16 ∷ []
cond_takers = refl

-- a sum's word is taken by the next sum and by an `out`
sum_takers : takers_of loop_main 6 ≡ 7 ∷ 8 ∷ []
sum_takers = refl

-- the number that a call gives is taken by its args
call_takers : takers_of back_main 1 ≡ 2 ∷ 4 ∷ []
call_takers = refl

-- nobody takes the word of a node that only leaves
no_takers : takers_of loop_main 9 ≡ []
no_takers = refl

-- the nodes that fire of a body and of two branches
body_firers : firers_in loop_main 0 ≡ 2 ∷ 14 ∷ 16 ∷ 18 ∷ []
body_firers = refl

then_firers : firers_in loop_main 1 ≡ 5 ∷ 6 ∷ 7 ∷ 8 ∷ 9 ∷ []
then_firers = refl

else_firers : firers_in loop_main 2 ≡ 12 ∷ 13 ∷ []
else_firers = refl

-- a call and a constant of the body wait for nothing, and a constant of a branch isn't of the body
call_starts : starters_of back_main ≡ 1 ∷ []
call_starts = refl

constant_starts : starters_of back_callee ≡ 2 ∷ []
constant_starts = refl

none_starts : starters_of loop_main ≡ []
none_starts = refl
