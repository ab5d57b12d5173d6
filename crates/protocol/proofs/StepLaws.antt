-- What an accepted action rests on, and how a step looks from one cell. Assumes nothing.
use mathlib.Core.Path.{◌≡◌, refl, ap}
use mathlib.Core.Logic.{◌≢◌}
use mathlib.Core.Bool.{Bool, true, false, cond, ◌&&◌}
use mathlib.Core.List.{List, [], ◌∷◌, map}
use Prim.Native.Nat.{ℕ, ◌<◌, ◌≤◌}
use native.Mathlib.Omega.{arith}
use lib.Dec.{eqb, leb}
use borrow.Author.Tests.{eqb-true, ltb-false, leb-true, le-leb, leb-false, not-false}
use Rattle.protocol.specs.declared.Action.{Action}
use Rattle.protocol.specs.declared.Answer.{Answer}
use Rattle.protocol.specs.declared.Rule.{Rule}
use Rattle.protocol.specs.declared.Proc.{Proc}
use Rattle.protocol.specs.Names.{last_rule, last_code, rule_of, proc_of}
use Rattle.protocol.specs.Slices.{Table, Places, cell_by_cell, every, sizes_good}
use Rattle.protocol.specs.Cell.{Cell, cell_by, cell_of}
use Rattle.protocol.specs.Soundness.{sound}
use Rattle.protocol.specs.First.{Refusal, when, All, Fails, NoneHolds}
use Rattle.protocol.specs.Guards.{Test, not_live, is_dirty, not_dirty, dirty_elsewhere, only_dirty_elsewhere, another_copy, locked_by_another, lock_held, lock_not_held, not_current, still_live}
use Rattle.protocol.specs.Guards.{number_of, refuses, tests, guard}
use Rattle.protocol.specs.Effects.{effect, value_of, stores_by}
use Rattle.protocol.specs.Step.{Seen, refusals, answer_to, seen_by, answer_by, table_after_by, seen, table_after}
use Rattle.protocol.specs.Handout.{Guard}
use Rattle.protocol.specs.AsHandout.{as_state}
use Rattle.protocol.proofs.Booleans.{and_left, and_right, and_both}
use Rattle.protocol.proofs.FirstLaws.{all_map, all_of, Refuse, Silent, first_accepted, first_none, none_at, all_behind}
use Rattle.protocol.proofs.HandoutLaws.{Among}
use Rattle.protocol.proofs.PlaceLaws.{Proper, by_cell}
use Rattle.protocol.proofs.CellLaws.{stores, sizes_of, same_sizes, length_stores, stores_here, stores_there}
use Rattle.protocol.proofs.SoundExactly.{sound_exactly}
use Rattle.protocol.proofs.GuardExactly.{guard_exactly}
use Rattle.protocol.proofs.EffectExactly.{effect_fits}
use Rattle.protocol.proofs.NumberLaws.{code_fits, named_among, has_exactly}

-- ---- the numbers of the refusals

pub guard_number : (test : Test) → (8 ≤ number_of test) × (number_of test ≤ 16)
unfolding number_of
guard_number (not_live p) = omega arith
guard_number (is_dirty p) = omega arith
guard_number (not_dirty p) = omega arith
guard_number (dirty_elsewhere p) = omega arith
guard_number (only_dirty_elsewhere p) = omega arith
guard_number (another_copy p) = omega arith
guard_number (locked_by_another p) = omega arith
guard_number lock_held = omega arith
guard_number (lock_not_held p) = omega arith
guard_number (not_current p) = omega arith
guard_number (still_live p) = omega arith

-- what a test says of every refusal with such a number it says of a guard's
pub guard_every : (test : Refusal → Bool) → ((n : ℕ) (b : Bool) → 8 ≤ n → n ≤ 16 → test (when n b) ≡ true) → (x : Cell) (r : Rule) (a : Proc) → every (guard x r a) test ≡ true
unfolding guard every
guard_every test f x r a = go (tests r a)
  where
    go : (ts : List Test) → every (map (λ t. when (number_of t) (refuses x t)) ts) test ≡ true
    go [] = refl
    go (t ∷ ts) = and_both (test (when (number_of t) (refuses x t))) _ (f (number_of t) (refuses x t) (guard_number t).0 (guard_number t).1) (go ts)

-- the highest number that an action gets
abbrev pub last_number : ℕ
last_number = 16

-- a number from 1 to the highest, and the value 0
abbrev pub Numbered : Refusal → Type 0
Numbered r = (1 ≤ r.answer.number) × (r.answer.number ≤ last_number) × (r.answer.value ≡ 0)

pub all_numbered : (rule boards cells : ℕ) (s : Seen) (a : Action) → All Numbered (refusals rule boards cells s a)
unfolding refusals every
all_numbered rule boards cells s a =
    all_of Numbered numbered says (refusals rule boards cells s a)
    (guard_every numbered (λ n b l h. rw (le-leb 1 n (omega arith), le-leb n last_number (omega arith))) s.cell (rule_of rule) (proc_of a))
  where
    numbered : Refusal → Bool
    numbered r = (leb 1 r.answer.number && leb r.answer.number last_number) && eqb r.answer.value 0

    says : (r : Refusal) → numbered r ≡ true → Numbered r
    says r e =
        let f = and_left (leb 1 r.answer.number && leb r.answer.number last_number) (eqb r.answer.value 0) e in (
          leb-true _ _ (and_left (leb 1 r.answer.number) (leb r.answer.number last_number) f),
          leb-true _ _ (and_right (leb 1 r.answer.number) (leb r.answer.number last_number) f),
          eqb-true _ _ (and_right (leb 1 r.answer.number && leb r.answer.number last_number) (eqb r.answer.value 0) e),
        )

pub all_refuse : (rule boards cells : ℕ) (s : Seen) (a : Action) → Refuse (refusals rule boards cells s a)
all_refuse rule boards cells s a = all_map Numbered _ (λ r k. let l = k.0 in omega arith) (refusals rule boards cells s a) (all_numbered rule boards cells s a)

pub all_silent : (rule boards cells : ℕ) (s : Seen) (a : Action) → Silent (refusals rule boards cells s a)
all_silent rule boards cells s a = all_map Numbered _ (λ r k. k.2) (refusals rule boards cells s a) (all_numbered rule boards cells s a)

-- ---- what an accepted action rests on

pub record Accepted (rule boards cells : ℕ) (s : Seen) (a : Action) : Type 0 where
  pub sizes : s.sizes ≡ true
  pub code_within : a.code ≤ last_code
  pub among : Among boards (proc_of a)
  pub inside : a.cell < cells
  pub sounds : sound (rule_of rule) boards s.cell ≡ true
  pub guarded : Guard boards (as_state s.cell) (rule_of rule) (proc_of a)

module _ (rule boards cells : ℕ) (s : Seen) (a : Action) where
  none_accepts : NoneHolds (refusals rule boards cells s a) → Accepted rule boards cells s a
  unfolding refusals
  none_accepts none =
      let f = none_at (refusals rule boards cells s a) none in
      let c = code_fits a (f 3) in
      let l = named_among boards a c (f 5) in
      let k = not-false _ (f 7) in
      let S = (sound_exactly (rule_of rule) boards s.cell).0 k in
      record {
        sizes = not-false _ (f 1);
        code_within = c;
        among = l;
        inside = leb-false cells a.cell (f 6);
        sounds = k;
        guarded = (guard_exactly boards s.cell (rule_of rule) (proc_of a) l S.0 S.1).0
            ((has_exactly rule a (ltb-false last_rule rule (f 2)) c).0 (f 4), all_behind Fails 7 (refusals rule boards cells s a) none);
      }

  pub accepted : (answer_to rule boards cells s a).number ≡ 0 → Accepted rule boards cells s a
  unfolding answer_to
  accepted e = none_accepts ((first_accepted _ refl (refusals rule boards cells s a) (all_refuse rule boards cells s a)).0 e)

  pub accepted_value : (answer_to rule boards cells s a).number ≡ 0 → (answer_to rule boards cells s a).value ≡ value_of s.cell (proc_of a)
  unfolding answer_to
  accepted_value e =
      ap (λ (o : Answer). o.value) (first_none (refusals rule boards cells s a) _ ((first_accepted _ refl (refusals rule boards cells s a) (all_refuse rule boards cells s a)).0 e))

  -- the cell after the action, seen from the cell alone
  unfoldable pub cell_after : Cell
  cell_after = cond (eqb (answer_to rule boards cells s a).number 0) (stores s.cell (effect (rule_of rule) boards s.cell (proc_of a))) s.cell

-- ---- a step, seen from a cell, by any proper arrangement

module _ (places : Places) (rule boards cells : ℕ) (t : Table) (a : Action) where
  pub sizes_by : sizes_good boards cells (table_after_by places rule boards cells t a) ≡ sizes_good boards cells t
  unfolding table_after_by
  sizes_by = go (eqb (answer_by places rule boards cells t a).number 0)
    where
      go : (b : Bool) → sizes_good boards cells (cond b (stores_by places a.cell t (effect (rule_of rule) boards (cell_by places boards cells t a.cell) (proc_of a))) t) ≡ sizes_good boards cells t
      go true = same_sizes boards cells t _ (length_stores places a.cell t _)
      go false = refl

  module _ (ok : Proper places boards cells) where
    pub here_by : cell_by places boards cells (table_after_by places rule boards cells t a) a.cell ≡ cell_after rule boards cells (seen_by places boards cells t a.cell) a
    unfolding table_after_by answer_by cell_after seen_by
    here_by = go (eqb (answer_by places rule boards cells t a).number 0) refl
      where
        x : Cell
        x = cell_by places boards cells t a.cell

        go : (b : Bool) → eqb (answer_by places rule boards cells t a).number 0 ≡ b →
            cell_by places boards cells (cond b (stores_by places a.cell t (effect (rule_of rule) boards x (proc_of a))) t) a.cell ≡ cond b (stores x (effect (rule_of rule) boards x (proc_of a))) x
        go true e =
            let k = accepted rule boards cells (seen_by places boards cells t a.cell) a (eqb-true _ _ e) in
            stores_here places boards cells ok a.cell k.inside t _ (sizes_of boards cells t k.sizes) (effect_fits (rule_of rule) boards x (proc_of a) k.among)
        go false e = refl

    pub there_by : (d : ℕ) → d ≢ a.cell → cell_by places boards cells (table_after_by places rule boards cells t a) d ≡ cell_by places boards cells t d
    unfolding table_after_by answer_by seen_by
    there_by d n = go (eqb (answer_by places rule boards cells t a).number 0) refl
      where
        x : Cell
        x = cell_by places boards cells t a.cell

        go : (b : Bool) → eqb (answer_by places rule boards cells t a).number 0 ≡ b →
            cell_by places boards cells (cond b (stores_by places a.cell t (effect (rule_of rule) boards x (proc_of a))) t) d ≡ cell_by places boards cells t d
        go true e =
            let k = accepted rule boards cells (seen_by places boards cells t a.cell) a (eqb-true _ _ e) in
            stores_there places boards cells ok a.cell k.inside t _ d (sizes_of boards cells t k.sizes) (effect_fits (rule_of rule) boards x (proc_of a) k.among) n
        go false e = refl

-- ---- by document 01's

module _ (rule boards cells : ℕ) (t : Table) (a : Action) where
  pub step_sizes : sizes_good boards cells (table_after rule boards cells t a) ≡ sizes_good boards cells t
  step_sizes = sizes_by (cell_by_cell boards) rule boards cells t a

  pub step_here : cell_of boards cells (table_after rule boards cells t a) a.cell ≡ cell_after rule boards cells (seen boards cells t a.cell) a
  step_here = here_by (cell_by_cell boards) rule boards cells t a (by_cell boards cells)

  pub step_there : (d : ℕ) → d ≢ a.cell → cell_of boards cells (table_after rule boards cells t a) d ≡ cell_of boards cells t d
  step_there = there_by (cell_by_cell boards) rule boards cells t a (by_cell boards cells)
