-- One record more: the run of a list of actions, and the action after them. Assumes nothing.
use mathlib.Core.Path.{◌≡◌, refl, sym, ap, ◌∙◌}
use mathlib.Core.Logic.{◌≢◌}
use mathlib.Core.Bool.{false, cond}
use Rattle.std.specs.Prelude.{Result, Ok, Err}
use Rattle.std.specs.Result.{is_err}
use Rattle.std.specs.Simd.{first_chunks}
use mathlib.Core.List.{List, [], ◌∷◌, ◌++◌, map, map-append}
use Prim.Native.Nat.{ℕ, zero, suc, ◌+◌, ◌*◌, ◌<◌, ◌≤◌}
use native.Mathlib.Omega.{arith}
use native.Mathlib.Numerals.{add-one}
use lib.Dec.{eqb}
use lib.ListN.{length, get_or, set, take, drop, length-append, length-map, length-set}
use lib.Seq.{get_or-set_same, get_or-set_other, get_or-drop, drop-drop}
use Rattle.std.proofs.lemmas.List.{get_or-take}
use native.Mathlib.Decide.{ℕ_discrete}
use borrow.Author.Tests.{eq-eqb, ne_eqb}
use Rattle.protocol.specs.declared.Action.{Action}
use Rattle.protocol.specs.declared.Answer.{Answer}
use Rattle.protocol.specs.declared.Refused.{Refused}
use Rattle.protocol.specs.Replies.{answer_of}
use Rattle.protocol.specs.Slices.{Table}
use Rattle.protocol.specs.Step.{seen, answer_by, answer}
use Rattle.protocol.specs.Runs.{Line, line_of, log_by, log, table_after_all_by, table_after_all, is_write, followed, written_after, latest_write}
use Rattle.protocol.proofs.Booleans.{same_choice}
use Rattle.protocol.proofs.StepLaws.{accepted}
use Rattle.table.specs.Statements.{Steps}
use Rattle.table.proofs.Promises.{held}
use Rattle.sessions.specs.Run.{accepted_in}
use Rattle.sessions.specs.Code.{Noted, Ran}
use Rattle.sessions.specs.File.{le16, le32, action_at, actions}
use Rattle.sessions.proofs.BytesLaws.{fill_more}
use Rattle.sessions.proofs.RunLaws.{length_actions, actions_more, table_more, log_more, length_log, accepted_more, latest_more, one_at_most}

-- ---- what an answered action leaves of the latest accepted writes

module _ (a : Action) (told : Answer) (latest : List ℕ) where
  pub noted_other : told.number ≡ 0 → a.code ≢ 1 → Noted a told latest 1 latest
  unfolding is_write
  noted_other e h = record { counts = rw e; keeps_length = refl; notes = λ c. rw (ne_eqb a.code 1 h, e) (same_choice (eqb a.cell c) (get_or latest c 0)) }

  pub noted_write : told.number ≡ 0 → a.code ≡ 1 → a.cell < length latest → Noted a told latest 1 (set latest a.cell a.value)
  unfolding is_write
  noted_write e d h = record { counts = rw e; keeps_length = length-set latest a.cell a.value; notes = λ c. rw (e, d) (go c) }
    where
      go : (c : ℕ) → get_or (set latest a.cell a.value) c 0 ≡ cond (eqb a.cell c) a.value (get_or latest c 0)
      go c = elim (ℕ_discrete c a.cell) [
        | yes i ↦ rw (i, eq-eqb a.cell a.cell refl) (get_or-set_same latest a.cell a.value 0 h)
        | no n ↦ rw (ne_eqb a.cell c (λ i. n (sym i))) (get_or-set_other latest a.cell c a.value 0 n)
      ]

pub noted_few : (a : Action) (told : Answer) (latest : List ℕ) (r : ℕ) (latest' : List ℕ) → Noted a told latest r latest' → r ≤ 1
noted_few a told latest r latest' n = rw n.counts (one_at_most (eqb told.number 0))

-- a result that is no refusal has the number 0
pub ok_0 : (told : Result ℕ Refused) → is_err told ≡ false → (answer_of told).number ≡ 0
ok_0 (Ok v) e = refl
ok_0 (Err d) e = cc

-- a record cut out of the slice is the record that stands there
chunk_at : (s : List ℕ) (k i at : ℕ) → i < k → at ≡ 9 * i → get_or (first_chunks 9 k s) i [] ≡ take 9 (drop at s)
chunk_at s zero i at h e = absurd (omega arith)
chunk_at s (suc k) zero at h e = rw e
chunk_at s (suc k) (suc i) at h e =
    let m : 9 + 9 * i ≡ at = omega arith in
    chunk_at (drop 9 s) k i (9 * i) (omega arith) refl ∙ ap (take 9) (drop-drop (9 * i) 9 s ∙ ap (λ (j : ℕ). drop j s) m)

pub cut_out : (s : List ℕ) (k i : ℕ) → i < k → action_at (get_or (first_chunks 9 k s) i []) 0 ≡ action_at s (9 * i)
unfolding action_at le16 le32
cut_out s k i h =
    let at = 9 * i in
    let byte : (j to : ℕ) → j < 9 → to ≡ at + j → get_or (take 9 (drop at s)) j 0 ≡ get_or s to 0 =
    λ j to l e. get_or-take 9 (drop at s) j 0 l ∙ get_or-drop at s j 0 ∙ ap (λ (m : ℕ). get_or s m 0) (sym e) in
    rw (
      chunk_at s k i at h refl,
      byte 0 at (omega arith) (omega arith),
      byte 1 (at + 1) (omega arith) refl,
      byte 2 (at + 2) (omega arith) refl,
      byte 3 (at + 3) (omega arith) refl,
      byte 4 (at + 3 + 1) (omega arith) (omega arith),
      byte 5 (at + 5) (omega arith) refl,
      byte 6 (at + 5 + 1) (omega arith) (omega arith),
      byte 7 (at + 5 + 2) (omega arith) (omega arith),
      byte 8 (at + 5 + 3) (omega arith) (omega arith),
    )

-- what a cell was last written looks at the number of an answer alone
written_told : (c v : ℕ) (a : Action) (told told' : Answer) → told.number ≡ told'.number →
    written_after c v (record { action = a; told = told }) ≡ written_after c v (record { action = a; told = told' })
written_told c v a told told' e = rw e

module _ (rule boards cells : ℕ) where
  -- an accepted action names a cell of the table
  pub accepted_inside : (t : Table) (a : Action) (told : Answer) (t' : Table) → Steps boards cells t rule a told t' → told.number ≡ 0 → a.cell < cells
  unfolding answer_by
  accepted_inside t a told t' s e = (accepted rule boards cells (seen boards cells t a.cell) a (sym s.number ∙ e)).inside

  pub ran_none : (t : Table) (numbers values latest : List ℕ) → Ran rule boards cells t numbers values latest [] 0 t numbers values latest
  unfolding log_by table_after_all_by accepted_in latest_write followed
  ran_none t numbers values latest =
      record { accepted = refl; table = λ s. refl; numbers_are = refl; values_are = refl; same_length = refl; latest_are = λ c. refl }

  module _ (t : Table) (numbers values latest : List ℕ) (l : List Action) (r : ℕ) (t₁ : Table) (numbers₁ values₁ latest₁ : List ℕ)
      (before : Ran rule boards cells t numbers values latest l r t₁ numbers₁ values₁ latest₁) where
    abbrev there : Table
    there = table_after_all rule boards cells t l

    is_there : t₁ ≡ there
    is_there = held t₁ there before.table

    filled : (f : Line → ℕ) (old old₁ : List ℕ) → length l < length old → old₁ ≡ map f (log rule boards cells t l) ++ drop (length l) old →
        (a : Action) (v : ℕ) → v ≡ f (line_of rule boards cells there a) →
        set old₁ (length l) v ≡ map f (log rule boards cells t (l ++ (a ∷ []))) ++ drop (length (l ++ (a ∷ []))) old
    filled f old old₁ h e a v d =
        let n : length (map f (log rule boards cells t l)) ≡ length l = length-map (log rule boards cells t l) f ∙ length_log rule boards cells t l in
        rw (e, log_more, map-append, length-append, d) (fill_more (map f (log rule boards cells t l)) (f (line_of rule boards cells there a)) old (length l) n h)

    ran_more : (a : Action) (told : Answer) (t₂ : Table) → Steps boards cells t₁ rule a told t₂ →
        (one : ℕ) (latest₂ : List ℕ) → Noted a told latest₁ one latest₂ → length l < length numbers → length l < length values →
        Ran rule boards cells t numbers values latest (l ++ (a ∷ [])) (r + one) t₂ (set numbers₁ (length l) told.number) (set values₁ (length l) told.value) latest₂
    ran_more a told t₂ s one latest₂ n hn hv = record {
      accepted = rw (log_more, accepted_more, before.accepted, n.counts, s.number, is_there);
      table = rw table_more (rw is_there at s.slices);
      numbers_are = filled (λ line. line.told.number) numbers numbers₁ hn before.numbers_are a told.number (s.number ∙ ap (λ (u : Table). (answer rule boards cells u a).number) is_there);
      values_are = filled (λ line. line.told.value) values values₁ hv before.values_are a told.value (s.value ∙ ap (λ (u : Table). (answer rule boards cells u a).value) is_there);
      same_length = n.keeps_length ∙ before.same_length;
      latest_are = λ c. rw (log_more, latest_more, sym (before.latest_are c)) (n.notes c ∙ written_told c (get_or latest₁ c 0) a told (answer rule boards cells there a) (s.number ∙ ap (λ (u : Table). (answer rule boards cells u a).number) is_there));
    }

  -- the same, where the actions are the first records
  pub ran_turn : (t : Table) (numbers values latest records : List ℕ) (i r : ℕ) (t₁ : Table) (numbers₁ values₁ latest₁ : List ℕ) →
      Ran rule boards cells t numbers values latest (actions records 0 i) r t₁ numbers₁ values₁ latest₁ →
      (a : Action) → a ≡ action_at records (9 * i) → (told : Answer) (t₂ : Table) → Steps boards cells t₁ rule a told t₂ →
      (one : ℕ) (latest₂ : List ℕ) → Noted a told latest₁ one latest₂ → i < length numbers → i < length values →
      Ran rule boards cells t numbers values latest (actions records 0 (i + 1)) (r + one) t₂ (set numbers₁ i told.number) (set values₁ i told.value) latest₂
  ran_turn t numbers values latest records i r t₁ numbers₁ values₁ latest₁ before a e told t₂ s one latest₂ n hn hv =
      let z : 0 + 9 * i ≡ 9 * i = omega arith in
      let c = length_actions records 0 i in
      let d : actions records 0 (i + 1) ≡ actions records 0 i ++ (a ∷ []) = rw (e, add-one) (rw z at (actions_more records 0 i)) in
      rw d (rw c at (ran_more t numbers values latest (actions records 0 i) r t₁ numbers₁ values₁ latest₁ before a told t₂ s one latest₂ n (rw c hn) (rw c hv)))
