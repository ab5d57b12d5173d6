-- The promises of `protocol` over the slices of the functions themselves: what a caller who lends them may rely on. Assumes nothing.
use mathlib.Core.Path.{◌≡◌, sym, ap, ◌∙◌, fun_ext}
use mathlib.Core.Logic.{◌≢◌, ◌↔◌, ◌⊎◌}
use mathlib.Core.Bool.{true, false}
use mathlib.Core.List.{List}
use Rattle.std.specs.Prelude.{Option, Some, None, Result, Ok}
use Prim.Native.Nat.{ℕ, ◌<◌, ◌≤◌}
use lib.ListN.{length}
use Rattle.protocol.specs.declared.Action.{Action}
use Rattle.protocol.specs.declared.Answer.{Answer}
use Rattle.protocol.specs.declared.Refused.{Refused}
use Rattle.protocol.specs.Names.{rule_of, proc_of}
use Rattle.protocol.specs.Replies.{number_of_reply}
use Rattle.protocol.specs.Slices.{Table, sizes_good}
use Rattle.protocol.specs.Cell.{cell_of}
use Rattle.protocol.specs.Soundness.{sound}
use Rattle.protocol.specs.First.{FirstIs, NoneHolds}
use Rattle.protocol.specs.Step.{seen, refusals, table_after}
use Rattle.protocol.specs.Check.{lowest_unsound, AllSound, LowestUnsound}
use Rattle.protocol.specs.Fresh.{fresh_table, fresh_after}
use Rattle.protocol.specs.Handout.{Guard, Effect, Value}
use Rattle.protocol.specs.AsHandout.{as_state, NoOtherHolds}
use Rattle.protocol.proofs.ReplyLaws.{one_result}
use Rattle.protocol.proofs.Demand1.{refused_exactly, accepted_exactly, refused_changes_nothing, only_reads_answer}
use Rattle.protocol.proofs.Demand2.{accepted_when_allowed, value_is, state_is, sound_after, others_stay}
use Rattle.protocol.proofs.CheckExactly.{check_1, check_2, check_accepted, check_sound, check_unsound}
use Rattle.protocol.proofs.FreshExactly.{fresh_1, fresh_accepted, fresh_value, fresh_refused_changes_nothing, fresh_fills}
use Rattle.table.specs.Statements.{Holds, Freshens, Checks, Steps}

-- a table that holds what another does is that table
pub held : (t u : Table) → Holds t u → t ≡ u
held t u h = fun_ext h

module _ (boards cells : ℕ) (t : Table) where
  -- ---- `step`

  module _ (rule : ℕ) (a : Action) (r : Answer) (t' : Table) (s : Steps boards cells t rule a r t') where
    -- demand 1
    pub step_refused : (n : ℕ) → n ≢ 0 → (r.number ≡ n) ↔ FirstIs n (refusals rule boards cells (seen boards cells t a.cell) a)
    step_refused n h = rw s.number (refused_exactly rule boards cells t a n h)

    pub step_accepted_exactly : (r.number ≡ 0) ↔ NoneHolds (refusals rule boards cells (seen boards cells t a.cell) a)
    step_accepted_exactly = rw s.number (accepted_exactly rule boards cells t a)

    pub step_only_reads_answer : a.code ≢ 0 → r.value ≡ 0
    step_only_reads_answer h = s.value ∙ only_reads_answer rule boards cells t a h

    pub step_changes_nothing : r.number ≢ 0 → Holds t' t × (r.value ≡ 0)
    step_changes_nothing h =
        let f = refused_changes_nothing rule boards cells t a (λ z. h (s.number ∙ z)) in
        ((λ i. s.slices i ∙ ap (λ (u : Table). u i) f.0), s.value ∙ f.1)

    -- demand 2
    pub step_accepted : NoOtherHolds (refusals rule boards cells (seen boards cells t a.cell) a) →
        (r.number ≡ 0) ↔ Guard boards (as_state (cell_of boards cells t a.cell)) (rule_of rule) (proc_of a)
    step_accepted quiet = rw s.number (accepted_when_allowed rule boards cells t a quiet)

    pub step_value : r.number ≡ 0 → r.value ≡ Value (as_state (cell_of boards cells t a.cell)) (proc_of a)
    step_value e = s.value ∙ value_is rule boards cells t a (sym s.number ∙ e)

    pub step_state : r.number ≡ 0 → as_state (cell_of boards cells t' a.cell) ≡ Effect (rule_of rule) (as_state (cell_of boards cells t a.cell)) (proc_of a)
    step_state e = rw (held t' (table_after rule boards cells t a) s.slices) (state_is rule boards cells t a (sym s.number ∙ e))

    pub step_others : (d : ℕ) → d ≢ a.cell → cell_of boards cells t' d ≡ cell_of boards cells t d
    step_others d n = rw (held t' (table_after rule boards cells t a) s.slices) (others_stay rule boards cells t a d n)

    pub step_sound_after : r.number ≡ 0 → sound (rule_of rule) boards (cell_of boards cells t' a.cell) ≡ true
    step_sound_after e = rw (held t' (table_after rule boards cells t a) s.slices) (sound_after rule boards cells t a (sym s.number ∙ e))

  -- ---- `check`

  module _ (rule : ℕ) (r : Result (Option ℕ) Refused) (s : Checks boards cells t rule r) where
    -- demand 1
    pub check_answers_1 : (number_of_reply r ≡ 1) ↔ (sizes_good boards cells t ≡ false)
    check_answers_1 = rw s.number (check_1 rule boards cells t)

    pub check_answers_2 : (number_of_reply r ≡ 2) ↔ ((sizes_good boards cells t ≡ true) × (4 < rule))
    check_answers_2 = rw s.number (check_2 rule boards cells t)

    pub check_is_accepted : (number_of_reply r ≡ 0) ↔ ((sizes_good boards cells t ≡ true) × (rule ≤ 4))
    check_is_accepted = rw s.number (check_accepted rule boards cells t)

    -- the finding of an accepted check
    check_says : (o : Option ℕ) {F : Type 0} → (lowest_unsound rule boards cells t ≡ o) ↔ F → (r ≡ Ok o) ↔ ((sizes_good boards cells t ≡ true) × (rule ≤ 4) × F)
    check_says o {F} means = (there, λ f. back (check_is_accepted.1 (f.0, f.1)) (means.1 f.2))
      where
        there : r ≡ Ok o → (sizes_good boards cells t ≡ true) × (rule ≤ 4) × F
        there e =
            let f = check_is_accepted.0 (ap (λ (q : Result (Option ℕ) Refused). number_of_reply q) e) in
            (f.0, f.1, means.0 (sym (rw e at s.accepted)))

        back : number_of_reply r ≡ 0 → lowest_unsound rule boards cells t ≡ o → r ≡ Ok o
        back z e = one_result r (Ok o) z (λ a b p q. let k : o ≡ b = cc in rw p at s.accepted ∙ e ∙ k)

    pub check_says_sound : (r ≡ Ok None) ↔ ((sizes_good boards cells t ≡ true) × (rule ≤ 4) × AllSound rule boards cells t)
    check_says_sound = check_says None (check_sound rule boards cells t)

    pub check_says_unsound : (c : ℕ) → (r ≡ Ok (Some c)) ↔ ((sizes_good boards cells t ≡ true) × (rule ≤ 4) × LowestUnsound rule boards cells t c)
    check_says_unsound c = check_says (Some c) (check_unsound rule boards cells t c)

  -- ---- `fresh`

  module _ (starting : List ℕ) (r : Answer) (t' : Table) (s : Freshens boards cells t starting r t') where
    -- demand 1
    pub fresh_answers_1 : (r.number ≡ 1) ↔ ((sizes_good boards cells t ≡ false) ⊎ (length starting ≢ cells))
    fresh_answers_1 = rw s.number (fresh_1 boards cells starting t)

    pub fresh_is_accepted : (r.number ≡ 0) ↔ ((sizes_good boards cells t ≡ true) × (length starting ≡ cells))
    fresh_is_accepted = rw s.number (fresh_accepted boards cells starting t)

    pub fresh_changes_nothing : r.number ≢ 0 → Holds t' t × (r.value ≡ 0)
    fresh_changes_nothing h =
        let f = fresh_refused_changes_nothing boards cells starting t (λ z. h (s.number ∙ z)) in
        ((λ i. s.slices i ∙ ap (λ (u : Table). u i) f), s.value ∙ fresh_value boards cells starting t)

    pub fresh_gives : r.number ≡ 0 → t' ≡ fresh_table boards starting
    fresh_gives e = held t' (fresh_after boards cells starting t) s.slices ∙ fresh_fills boards cells starting t (sym s.number ∙ e)
