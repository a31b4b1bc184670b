-- A stamp that is answered done was drawn above what its client had read.
use Rattle.std.proofs.Common.{◌≡◌, ℕ, suc, List, [], ◌∷◌, ◌++◌, ◌⊎◌, inl, inr, take, slice_get, Some, refl, sym, ap, ◌∙◌, subst}
use Rattle.std.proofs.lemmas.List.Elements.{All-take}
use Rattle.plain_store.specs.Words.{◌∈◌, Stamp, Item, IsAct, Setup}
use Rattle.plain_store.specs.History.{Moment, History, Intent, Writes, Gets, Finds, Transaction, transactions, begun_by, taken_in}
use Rattle.plain_store.specs.Moves.{Move}
use Rattle.plain_store.specs.Run.{moves, moment_of, answer_to, run}
use Rattle.plain_store.specs.Laws.{EachStep, running_for, receiver}
use Rattle.plain_store.specs.Newest.{IsNewest, IsNewestAnswer}
use Rattle.plain_store.proofs.Steps.{Happens, moved, Moving, waits, decides, finishes, asks, begins_reading, reads, lists, lists_none, restarts, fails, happens, moment_act}
use Rattle.plain_store.proofs.StaysTrue.{running_is}
use Rattle.plain_store.proofs.KeptLogs.{NewBegun, begun_cases, new_request}
use Rattle.plain_store.proofs.Runs.{act_at}
use Rattle.settle.specs.Words.{Act, Put, GetAll, Find, Deliver, Answer, PutBegun, GetBegun, FindBegun, Done}
use Rattle.settle.specs.Promises.{IsDrawnNewest, IsNewestDone}

-- each step of a history was answered so, after those before it
abbrev EachNewest : History → Type 0
EachNewest [] = Unit {0}
EachNewest (m ∷ older) = IsNewestAnswer older m.act m.answer × EachNewest older

newest_run : (setup : Setup) (history : History) (acts : List Act) → EachNewest history
    → ((n : ℕ) (act : Act) → slice_get acts n ≡ Some act → IsNewestAnswer (run setup history (take n acts)) act (answer_to setup (run setup history (take n acts)) act))
    → EachNewest (run setup history acts)
unfolding answer_to
newest_run setup history [] each law = each
newest_run setup history (act ∷ acts) each law =
    newest_run setup (moment_of setup history act ∷ history) acts
    (subst (λ a. IsNewestAnswer history a (moment_of setup history act).answer) (sym (moment_act setup history act)) (law 0 act refl), each)
    (λ n next there. law (suc n) next there)

-- a write drew its stamp so
drawn : (history : History) (writer : Transaction) (stamp : Stamp) (items : List Item) → EachNewest history → writer ∈ transactions history → writer.request ≡ Writes stamp items → IsDrawnNewest history writer.client stamp
drawn [] writer stamp items each own writes = absurd own
drawn (m ∷ older) writer stamp items each own writes = go (begun_cases m older writer own) (drawn older writer stamp items each.1)
  where
    begins : (act : Act) (answer : Answer) (begun : ℕ × Intent) → m.act ≡ act → m.answer ≡ answer → begun_by act answer ≡ Some begun → begun.1 ≡ Writes stamp items → IsDrawnNewest (m ∷ older) begun.0 stamp
    begins (Put client written) (PutBegun s rows) begun a w b request =
        let both : (client, Writes s written) ≡ begun = cc in
        let r : Writes s written ≡ Writes stamp items = ap (λ (x : ℕ × Intent). x.1) both ∙ request in
        let same : s ≡ stamp = cc in
        let right : IsNewest older client s = subst (λ x. IsNewestAnswer older (Put client written) x) w (subst (λ x. IsNewestAnswer older x m.answer) a each.0) in
        subst (λ c. IsDrawnNewest (m ∷ older) c stamp) (ap (λ (x : ℕ × Intent). x.0) both)
        (record { items = written; rows = rows; newer = []; begins = m; older = older; stands = refl; puts = a; draws = w ∙ ap (λ x. PutBegun x rows) same; newest = subst (IsNewest older client) same right })
    begins (GetAll client keys) (GetBegun rows) begun a w b request = let both : (client, Gets keys) ≡ begun = cc in let r : Gets keys ≡ Writes stamp items = ap (λ (x : ℕ × Intent). x.1) both ∙ request in cc
    begins (Find client tag) (FindBegun rows) begun a w b request = let both : (client, Finds tag) ≡ begun = cc in let r : Finds tag ≡ Writes stamp items = ap (λ (x : ℕ × Intent). x.1) both ∙ request in cc
    begins act answer begun a w b request = cc

    go : (writer ∈ transactions older) ⊎ NewBegun older m writer → (writer ∈ transactions older → writer.request ≡ Writes stamp items → IsDrawnNewest older writer.client stamp) → IsDrawnNewest (m ∷ older) writer.client stamp
    go (inl was) rest =
        let r = rest was writes in
        record { items = r.items; rows = r.rows; newer = m ∷ r.newer; begins = r.begins; older = r.older; stands = ap (λ rest. m ∷ rest) r.stands; puts = r.puts; draws = r.draws; newest = r.newest }
    go (inr n) rest =
        subst (λ c. IsDrawnNewest (m ∷ older) c stamp) (ap (λ (t : Transaction). t.client) (sym n.2))
        (begins m.act m.answer n.0 refl refl n.1 (new_request older m writer stamp items n writes))

-- what is answered done is answered to a writer of that stamp
done_writer : (setup : Setup) (older : History) (m : Moment) (stamp : Stamp) → Happens setup older m → m.answer ≡ Done stamp
    → (writer : Transaction) × (items : List Item) × (receiver older m.act ≡ Some writer) × (writer.request ≡ Writes stamp items) × (writer ∈ transactions older)
done_writer setup older m stamp (moved row message reply transaction move at e r wanted how) d = go move how d
  where
    go : (move : Move) → Moving setup transaction.request (taken_in older transaction ++ message ∷ []) message move → (moves older (Deliver row) transaction move).answer ≡ Done stamp
        → (writer : Transaction) × (items : List Item) × (receiver older (moves older (Deliver row) transaction move).act ≡ Some writer) × (writer.request ≡ Writes stamp items) × (writer ∈ transactions older)
    go move (finishes s items request all) d =
        let same : s ≡ stamp = cc in
        (transaction, items, ap (running_for older) at ∙ r, request ∙ ap (λ x. Writes x items) same, (running_is older message.client transaction r).0)
    go move waits d = cc
    go move (decides s items request all) d = cc
    go move (asks keys) d = cc
    go move (begins_reading keys) d = cc
    go move (reads keys readable) d = cc
    go move (lists tag keys readable) d = cc
    go move lists_none d = cc
    go move (restarts key s floor c f above) d = cc
    go move (fails why [] failing) d = cc
    go move (fails why (out ∷ outs) failing) d = cc
done_writer setup older m stamp _ d = cc

pub drawn_newest : ((setup : Setup) (acts : List Act) → EachStep IsNewestAnswer setup acts) → (setup : Setup) (acts : List Act) → EachStep IsNewestDone setup acts
unfolding answer_to
drawn_newest law setup acts valid n act at = go (moment_of setup (run setup [] (take n acts)) act).answer refl
  where
    history : History
    history = run setup [] (take n acts)

    go : (answer : Answer) → (moment_of setup history act).answer ≡ answer → IsNewestDone history act answer
    go (Done stamp) is =
        let w = done_writer setup history (moment_of setup history act) stamp (happens setup history act (act_at acts n act valid at)) is in
        let each = newest_run setup [] (take n acts) tt (law setup (take n acts) (All-take IsAct n acts valid)) in
        (w.0, subst (λ a. receiver history a ≡ Some w.0) (moment_act setup history act) w.2, drawn history w.0 stamp w.1 each w.4 w.3)
    go answer is = tt
