-- What the number of an answer settles for the code: the boards of an accepted action, and the whole promise of a step. Assumes nothing.
use mathlib.Core.Path.{◌≡◌, refl, sym, ap, ◌∙◌}
use mathlib.Core.Logic.{inl, inr}
use mathlib.Core.Bool.{Bool, true, false}
use mathlib.Core.List.{List}
use Prim.Native.Nat.{ℕ, ◌+◌, ◌*◌, ◌<◌, ◌≤◌}
use lib.ListN.{get_or}
use native.Mathlib.Omega.{arith}
use native.Mathlib.Decide.{ℕ_discrete, dec_lt}
use borrow.Author.Tests.{leb-false, not-false}
use Rattle.std.specs.Prelude.{Ok, Err}
use Rattle.protocol.specs.declared.Action.{Action}
use Rattle.protocol.specs.declared.Proc.{Proc}
use Rattle.protocol.specs.declared.Refused.{Refused}
use Rattle.protocol.specs.declared.Refused.TheVariants.{BadSizes, BadRule}
use Rattle.protocol.specs.declared.Rule.{Rule}
use Rattle.protocol.specs.Names.{rule_number, rule_of, proc_of, Has}
use Rattle.protocol.specs.Replies.{reply_number, answer_of}
use Rattle.protocol.specs.Slices.{Table, table_of, main, copies, masks, sizes_good}
use Rattle.protocol.specs.Cell.{Cell, cell_of}
use Rattle.protocol.specs.Soundness.{sound}
use Rattle.protocol.specs.First.{first_number}
use Rattle.protocol.specs.Guards.{guard}
use Rattle.protocol.specs.Step.{malformed, missing, off_board, seen_by, seen, refusals, answer_by, answer, table_after_by}
use Rattle.protocol.proofs.Booleans.{clash}
use Rattle.protocol.proofs.InWords.{malformed_exactly, off_board_exactly}
use Rattle.protocol.proofs.NumberLaws.{code_fits, has_exactly}
use Rattle.protocol.proofs.ReplyLaws.{not_accepted}
use Rattle.protocol.proofs.StepLaws.{accepted_value}
use Rattle.protocol.proofs.Demand1.{accepted_exactly, refused_changes_nothing}
use Rattle.protocol.proofs.RefusalOrder.{answers_1, answers_2, answers_3, answers_4, answers_7, answers_guard}
use Rattle.table.specs.Statements.{Holds, Steps}
use Rattle.table.specs.Code.{Ready, EachBoard, board_of, Names, MasksAt, current_at, masks_sound, copies_sound, GuardGives, Leaves, Values}
use Rattle.table.proofs.ReadyLaws.{ready, copy_is, as_live, as_dirty, as_lock, current_is}
use Rattle.table.proofs.SoundLaws.{masks_below, unsound_masks, by_copies}
use Rattle.protocol.proofs.Unique.{rule_is}
use Rattle.table.proofs.ProcedureLaws.{each_board, board_is}

-- the boards of an action that is well formed and on the table: an unused `to` is 0
both_boards_in : (boards : ℕ) (a : Action) → 1 ≤ boards → malformed a ≡ false → off_board boards a ≡ false → (a.board < boards) × (a.to < boards)
both_boards_in boards a some f o = (home (dec_lt a.board boards), there (ℕ_discrete a.code 5) (ℕ_discrete a.to 0) (dec_lt a.to boards))
  where
    home : Dec (a.board < boards) → a.board < boards
    home (yes l) = l
    home (no n) = absurd (clash ((off_board_exactly boards a).1 (inl (omega arith))) o)

    there : Dec (a.code ≡ 5) → Dec (a.to ≡ 0) → Dec (a.to < boards) → a.to < boards
    there c z (yes l) = l
    there (yes c) z (no n) = absurd (clash ((off_board_exactly boards a).1 (inr (c, omega arith))) o)
    there (no c) (yes z) (no n) = absurd (n (omega arith))
    there (no c) (no z) (no n) = absurd (clash ((malformed_exactly a).1 (inl (inr (c, z)))) f)

by_slice : (u : Table) (m k w : List ℕ) → m ≡ u main → k ≡ u copies → w ≡ u masks → Holds (table_of m k w) u
by_slice u m k w a b c main = a
by_slice u m k w a b c copies = b
by_slice u m k w a b c masks = c

module _ (rule boards cells : ℕ) (t : Table) (a : Action) where
  -- accepted: the cell, and the boards that the action names
  pub accepted_room : 0 ≡ (answer rule boards cells t a).number → Ready boards cells a.cell t × EachBoard (λ p. p < boards) (proc_of a)
  unfolding refusals seen_by
  accepted_room e =
      let n = (accepted_exactly rule boards cells t a).0 (sym e) in
      let y = ready boards cells t (not-false _ n.0) a.cell (leb-false cells a.cell n.1.1.1.1.1.0) in
      let b = both_boards_in boards a y.some_board n.1.1.0 n.1.1.1.1.0 in
      (y, each_board (λ p. p < boards) a n.1.1.0 b.0 b.1)

  -- refused: the answer, and nothing changed
  pub stopped : (e : Refused) → reply_number e ≡ (answer rule boards cells t a).number → Steps boards cells t rule a (answer_of (Err e)) t
  stopped e n =
      let f = refused_changes_nothing rule boards cells t a (λ z. not_accepted e (n ∙ z)) in
      record { number = n; value = sym f.1; slices = λ s. ap (λ (u : Table). u s) (sym f.0) }

  pub badly_sized : sizes_good boards cells t ≡ false → Steps boards cells t rule a (answer_of (Err BadSizes)) t
  badly_sized b = stopped BadSizes (sym ((answers_1 rule boards cells t a).1 b))

  pub unruled : sizes_good boards cells t ≡ true → 4 < rule → Steps boards cells t rule a (answer_of (Err BadRule)) t
  unruled s l = stopped BadRule (sym ((answers_2 rule boards cells t a).1 (s, l)))

  -- accepted: the action's value, and its effect stored
  pub went : (r : ℕ) (m k w : List ℕ) → 0 ≡ (answer rule boards cells t a).number → Values boards cells a.cell t (proc_of a) r m k → Leaves boards cells a.cell t (proc_of a) masks w →
      Steps boards cells t rule a (answer_of (Ok r)) (table_of m k w)
  unfolding table_after_by answer_by seen_by
  went r m k w e v f =
      let ok : (answer rule boards cells t a).number ≡ 0 = sym e in
      record {
        number = e;
        value = v.value ∙ sym (accepted_value rule boards cells (seen boards cells t a.cell) a ok);
        slices = rw ok (by_slice _ m k w (v.leaves_main (rule_of rule)) (v.leaves_copies (rule_of rule)) (f (rule_of rule)));
      }

  -- refused for its form: 3, or 4
  pub unformed : sizes_good boards cells t ≡ true → rule ≤ 4 → (e : Refused) → Names rule a (Err e) → reply_number e ≡ (answer rule boards cells t a).number
  unformed s r e n = go (malformed a) refl (missing rule a.code) refl
    where
      go : (b : Bool) → malformed a ≡ b → (d : Bool) → missing rule a.code ≡ d → reply_number e ≡ (answer rule boards cells t a).number
      go true f d g = (rw f at n) ∙ sym ((answers_3 rule boards cells t a).1 (s, r, f))
      go false f true g = (rw (f, g) at n) ∙ sym ((answers_4 rule boards cells t a).1 (s, r, f, g))
      go false f false g = absurd (not_accepted e (rw (f, g) at n))

-- ---- past the sixth refusal

pub record Cleared (rule boards cells : ℕ) (t : Table) (a : Action) : Type 0 where
  pub sizes : sizes_good boards cells t ≡ true
  pub ruled : rule ≤ 4
  pub formed : malformed a ≡ false
  pub there : missing rule a.code ≡ false
  pub boarded : off_board boards a ≡ false
  pub inside : a.cell < cells

module _ (r : Rule) (boards cells : ℕ) (t : Table) (a : Action) (c : Cleared (rule_number r) boards cells t a) where
  abbrev rule : ℕ
  rule = rule_number r

  abbrev here : Cell
  here = cell_of boards cells t a.cell

  pub cleared_ready : Ready boards cells a.cell t
  cleared_ready = ready boards cells t c.sizes a.cell c.inside

  pub cleared_boards : (a.board < boards) × (a.to < boards)
  cleared_boards = both_boards_in boards a cleared_ready.some_board c.formed c.boarded

  -- the guard may look at its boards
  pub cleared_named : (p : Proc) → p ≡ proc_of a → Has r p × EachBoard (λ q. q < 16) p
  cleared_named p e =
      let few = cleared_ready.few_boards in
      let has = (has_exactly rule a c.ruled (code_fits a c.formed)).0 c.there in
      rw e (rw (rule_is r) at has, each_board (λ q. q < 16) a c.formed (omega (arith, few, cleared_boards.0)) (omega (arith, few, cleared_boards.1)))

  cleared_7 : sound (rule_of rule) boards here ≡ false → 7 ≡ (answer rule boards cells t a).number
  cleared_7 s = sym ((answers_7 rule boards cells t a).1 (c.sizes, c.ruled, c.formed, c.there, c.boarded, c.inside, s))

  module _ (live dirty lock : ℕ) (at : MasksAt (t masks) a.cell live dirty lock) where
    pub cleared_masks : masks_sound rule boards live dirty lock ≡ false → 7 ≡ (answer rule boards cells t a).number
    cleared_masks e = cleared_7 (unsound_masks rule boards cells a.cell t c.ruled cleared_ready live dirty lock at e)

    module _ (q : masks_sound rule boards live dirty lock ≡ true) (now : ℕ) (z : now ≡ current_at boards a.cell dirty (t main) (t copies)) where
      judged : copies_sound rule boards a.cell live now (t copies) boards ≡ sound (rule_of rule) boards here
      judged = by_copies rule boards cells a.cell t c.ruled cleared_ready live dirty lock at q now z

      pub cleared_copies : copies_sound rule boards a.cell live now (t copies) boards ≡ false → 7 ≡ (answer rule boards cells t a).number
      cleared_copies e = cleared_7 (sym judged ∙ e)

      -- the guard, on what the code has read of the cell
      pub cleared_guard : copies_sound rule boards a.cell live now (t copies) boards ≡ true →
          (copy : ℕ) → copy ≡ get_or (t copies) (a.cell * boards + a.board) 0 → (p : Proc) → p ≡ proc_of a → (n : ℕ) → GuardGives r live dirty lock copy now p n → n ≡ (answer rule boards cells t a).number
      cleared_guard e copy k p same n g =
          let y = cleared_ready in
          let b : board_of p ≡ a.board = ap board_of same ∙ board_is a c.formed in
          g here (as_live boards cells a.cell t y live dirty lock at) (as_dirty boards cells a.cell t y live dirty lock at) (as_lock boards cells a.cell t y live dirty lock at)
          (rw b (copy_is boards cells a.cell t y a.board cleared_boards.0) ∙ sym k) (current_is boards cells a.cell t y live dirty lock at (masks_below rule boards live dirty lock q) ∙ sym z)
          ∙ ap (λ (q : Rule). first_number (guard here q p)) (sym (rule_is r))
          ∙ ap (λ (q : Proc). first_number (guard here (rule_of rule) q)) same
          ∙ sym (answers_guard rule boards cells t a (c.sizes, c.ruled, c.formed, c.there, c.boarded, c.inside, sym judged ∙ e))
