use Rattle.std.proofs.Common.{◌≡◌, ◌∙◌, ◌+◌, List, ap, sym, subst, refl, arith}
use Rattle.history.specs.declared.entry.HistoryEntry.{HistoryEntry}
use Rattle.history.specs.declared.entry.JoinedClient.{JoinedClient}
use Rattle.history.specs.Entries.{count}
use Rattle.traced_client.specs.Clients.{HaveRows}
use Rattle.traced_client.proofs.Rows.{joined_rows, none_joined, ok_holds, rows_same}
use Rattle.traced_client.proofs.client_words.ClientWords.join.Goals as goal

-- it has a row now, and so has each that joined before
pub invariant_of-self-2 : goal.invariant_of-self-2
invariant_of-self-2 g c =
    let b = c.args.self.now in
    let seen = c.again-seen.result in
    let now = c.join.new.self in
    let told = c.in-Some.ensures in
    let member : JoinedClient = record { word = c.in-Some.tally.key; tenant = c.args.tenant; client = c.args.client } in
    let P : List HistoryEntry → Type 0 = λ l. HaveRows l b.rows in
    let Q : List HistoryEntry → Type 0 = λ l. HaveRows l c.insert.new.self in
    let have : P seen = subst P (sym c.again-seen.ensures.same) b.have_rows in
    let before : count 0 seen ≡ b.joined = ap (count 0) c.again-seen.ensures.same ∙ b.counted in
    let more : count 0 now ≡ count 0 seen + 1 = omega (arith, told.came.counted, before) in
    let updates = ok_holds c.insert.result _ (sym c.is_err-2.ensures.value ∙ c.if-is_err-2.false) c.insert.ensures.updates in
    record {
      register_is = b.register_is;
      counted = ap (count 0) c.again.ensures.same ∙ told.came.counted;
      have_rows = subst Q (sym c.again.ensures.same)
          (joined_rows seen now c.reserve.new.self c.insert.new.self member c.args.row _ c.join.ensures.later more told.came.joined
          (λ there. none_joined seen b.rows c.args.tenant c.args.client c.args.row c.requires.row c.requires.new have member there refl refl) c.requires.row updates
          (rows_same seen b.rows c.reserve.new.self c.reserve.ensures.entries have));
    }
