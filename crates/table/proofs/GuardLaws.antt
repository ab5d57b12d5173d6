-- The guard table as the code tests it: for each procedure its tests, some of them under some rules only. Assumes nothing.
use mathlib.Core.Path.{◌≡◌, refl}
use mathlib.Core.Bool.{Bool, cond, not, ◌&&◌, ◌||◌}
use Prim.Native.Nat.{ℕ}
use lib.Dec.{eqb, ltb}
use denote.Enum.Bare.{sameb}
use Rattle.protocol.specs.contracts.Rule.{the_type}
use Rattle.protocol.specs.declared.Rule.{Rule}
use Rattle.protocol.specs.declared.Rule.TheVariants.{IncoherentMemory, GlobalImpl, CurrentCaches, ExclusiveLocks0, ExclusiveLocks}
use Rattle.protocol.specs.declared.Proc.{Proc}
use Rattle.protocol.specs.declared.Proc.TheVariants.{Read, Write, Barrier, MtoC, CtoM, CtoC, Drop, Acquire, Release}
use Rattle.protocol.specs.First.{first_number}
use Rattle.protocol.specs.Names.{rule_number, Has}
use Rattle.protocol.specs.Masks.{has_board, has_another}
use Rattle.protocol.specs.Cell.{Cell, copy_at, live_mask, dirty_mask, lock_mask, current_value}
use Rattle.protocol.specs.Guards.{guard, tests, number_of, refuses}

-- `==` of two rules, and whether a rule is before the first with locks
abbrev same : (r s : Rule) → Bool
same r s = sameb the_type r s

abbrev no_locks : Rule → Bool
no_locks r = ltb (rule_number r) (rule_number ExclusiveLocks0)

module _ (x : Cell) where
  abbrev live : ℕ → Bool
  live p = has_board (live_mask x) p

  abbrev dirty : ℕ → Bool
  dirty p = has_board (dirty_mask x) p

  abbrev lock : ℕ → Bool
  lock p = has_board (lock_mask x) p

  -- what the guard of a procedure that the rule has answers
  abbrev Tests : Proc → (Rule → ℕ) → Type 0
  Tests a n = (r : Rule) → Has r a → n r ≡ first_number (guard x r a)

  pub read_tests : (p : ℕ) → Tests (Read p) (λ r. cond (not (live p)) 8 (cond (same r GlobalImpl && not (eqb (copy_at x p) (current_value x))) 15 0))
  unfolding guard tests number_of refuses rule_number
  read_tests p IncoherentMemory h = refl
  read_tests p GlobalImpl h = refl
  read_tests p CurrentCaches h = refl
  read_tests p ExclusiveLocks0 h = refl
  read_tests p ExclusiveLocks h = refl

  pub write_tests : (p v : ℕ) → Tests (Write p v) (λ r. cond (same r GlobalImpl && (not (dirty p) && has_another (dirty_mask x) p)) 11 (cond (same r CurrentCaches && has_another (live_mask x) p) 12 (cond (not (no_locks r) && not (lock p)) 14 0)))
  unfolding guard tests number_of refuses rule_number
  write_tests p v IncoherentMemory h = refl
  write_tests p v GlobalImpl h = refl
  write_tests p v CurrentCaches h = refl
  write_tests p v ExclusiveLocks0 h = refl
  write_tests p v ExclusiveLocks h = refl

  pub barrier_tests : (p : ℕ) → Tests (Barrier p) (λ r. cond (live p) 16 0)
  unfolding guard tests number_of refuses rule_number
  barrier_tests p IncoherentMemory h = refl
  barrier_tests p GlobalImpl h = absurd h
  barrier_tests p CurrentCaches h = absurd h
  barrier_tests p ExclusiveLocks0 h = absurd h
  barrier_tests p ExclusiveLocks h = absurd h

  pub mtoc_tests : (p : ℕ) → Tests (MtoC p) (λ r. cond (dirty p) 9 (cond ((same r CurrentCaches || same r ExclusiveLocks0) && has_another (dirty_mask x) p) 11 (cond (not (no_locks r) && has_another (lock_mask x) p) 13 0)))
  unfolding guard tests number_of refuses rule_number
  mtoc_tests p IncoherentMemory h = refl
  mtoc_tests p GlobalImpl h = refl
  mtoc_tests p CurrentCaches h = refl
  mtoc_tests p ExclusiveLocks0 h = refl
  mtoc_tests p ExclusiveLocks h = refl

  pub ctom_tests : (p : ℕ) → Tests (CtoM p) (λ r. cond (not (dirty p)) 10 0)
  unfolding guard tests number_of refuses rule_number
  ctom_tests p IncoherentMemory h = refl
  ctom_tests p GlobalImpl h = refl
  ctom_tests p CurrentCaches h = refl
  ctom_tests p ExclusiveLocks0 h = refl
  ctom_tests p ExclusiveLocks h = refl

  pub ctoc_tests : (p q : ℕ) → Tests (CtoC p q) (λ r. cond (not (no_locks r) && not (eqb (lock_mask x) 0)) 13 (cond (dirty q) 9 (cond (not (live p)) 8 0)))
  unfolding guard tests number_of refuses rule_number
  ctoc_tests p q IncoherentMemory h = refl
  ctoc_tests p q GlobalImpl h = refl
  ctoc_tests p q CurrentCaches h = refl
  ctoc_tests p q ExclusiveLocks0 h = refl
  ctoc_tests p q ExclusiveLocks h = refl

  pub drop_tests : (p : ℕ) → Tests (Drop p) (λ r. cond (dirty p) 9 0)
  unfolding guard tests number_of refuses rule_number
  drop_tests p IncoherentMemory h = refl
  drop_tests p GlobalImpl h = refl
  drop_tests p CurrentCaches h = refl
  drop_tests p ExclusiveLocks0 h = refl
  drop_tests p ExclusiveLocks h = refl

  pub acquire_tests : (p : ℕ) → Tests (Acquire p) (λ r. cond (not (eqb (lock_mask x) 0)) 13 (cond (has_another (live_mask x) p) 12 0))
  unfolding guard tests number_of refuses rule_number
  acquire_tests p IncoherentMemory h = absurd h
  acquire_tests p GlobalImpl h = absurd h
  acquire_tests p CurrentCaches h = absurd h
  acquire_tests p ExclusiveLocks0 h = refl
  acquire_tests p ExclusiveLocks h = refl

  pub release_tests : (p : ℕ) → Tests (Release p) (λ r. cond (same r ExclusiveLocks && dirty p) 9 0)
  unfolding guard tests number_of refuses rule_number
  release_tests p IncoherentMemory h = absurd h
  release_tests p GlobalImpl h = absurd h
  release_tests p CurrentCaches h = absurd h
  release_tests p ExclusiveLocks0 h = refl
  release_tests p ExclusiveLocks h = refl
