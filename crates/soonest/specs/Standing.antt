-- What is kept beside the deadlines, in the order of the places of `plan`.
use Rattle.std.specs.Prelude.{ℕ, List, [], ◌∷◌, ◌++◌}
use Rattle.soonest.specs.declared.State.{State}

abbrev pub standing : State → List ℕ
standing x = x.rows ++ x.read_end ∷ x.write_end ∷ x.free ∷ x.events ∷ []
