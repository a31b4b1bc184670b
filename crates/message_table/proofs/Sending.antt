-- The live rows stand for the messages that were sent and not lost.
use Rattle.std.proofs.Common.{◌≡◌, ◌≢◌, ℕ, zero, suc, ◌+◌, ◌-◌, ◌<◌, ◌≤◌, Bool, true, false, cond, ◌||◌, List, [], ◌∷◌, ◌++◌, length, Option, Some, None, is_some, eqb-true, eq-eqb, refl, sym, ◌∙◌, ap, arith}
use Rattle.std.specs.Prelude.{All, slice_get, ◌==◌, nat_eq, nat_le, nat_lt, ◌&&◌, max, Result, Ok, Err, is_err, OnOk}
use Rattle.std.specs.List.{list_any}
use Rattle.std.specs.Borrow.{Bor}
use Rattle.std.specs.Option.{option_copied}
use Rattle.std.specs.FinMap as fin
use Rattle.std.specs.FinMap.{FinMap}
use Rattle.std.specs.Ordering.{nat_cmp, eq_by_cmp}
use Rattle.std.specs.Cmp.{unsigned_tied, nat_cmp_total}
use Rattle.std.proofs.lemmas.Bool.{false_from_ne_true, and_parts, leb-true}
use Rattle.std.proofs.lemmas.Cmp.{nat_eq_equiv}
use Rattle.std.proofs.lemmas.List.{length_push}
use Rattle.std.proofs.lemmas.List.Elements.{All-weaker, All-cons}
use Rattle.std.proofs.lemmas.List.Folds.{list_any_none}
use Rattle.std.proofs.lemmas.Option.{slice_get_within}
use Rattle.plain_store.specs.declared.message.Message.{Message}
use Rattle.plain_store.specs.History.{History, messages, lost_rows, message_at}
use Rattle.std.specs.Map.{lookup}
use Rattle.indexmap.specs.IndexMap.{IndexMap, IsUnique, spare, get}
use Rattle.message_table.specs.Content.{TableContent, message_in, StandsFor}
use Rattle.message_table.specs.Layout.{live_in, HoldsRows}
use Rattle.message_table.proofs.Live.{get_live, live_insert, live_remove}

-- a history's message at a row is that of its messages and lost rows
pub message_at-in : (history : History) (row : ℕ) → message_in (messages history) (lost_rows history) row ≡ message_at history row
unfolding message_at
message_at-in history row = refl

get_pushed : {X : Type 0} (xs : List X) (x : X) → slice_get (xs ++ x ∷ []) (length xs) ≡ Some x
get_pushed [] x = refl
get_pushed (y ∷ ys) x = get_pushed ys x

get_kept : {X : Type 0} (xs : List X) (x : X) (i : ℕ) → i ≢ length xs → slice_get (xs ++ x ∷ []) i ≡ slice_get xs i
get_kept [] x zero other = absurd (other refl)
get_kept [] x (suc i) other = refl
get_kept (y ∷ ys) x zero other = refl
get_kept (y ∷ ys) x (suc i) other = get_kept ys x i (λ same. other (ap suc same))

-- a row past the last was not lost
not_lost : (sent : ℕ) (lost : List ℕ) → All (λ row. row ≤ sent) lost → list_any (λ l. l == sent + 1) lost ≡ false
not_lost sent lost within =
    list_any_none (λ l. l == sent + 1) lost (All-weaker (λ row. row ≤ sent) (λ l. (l == sent + 1) ≡ false) (λ l small. false_from_ne_true _ (λ same. omega (arith, small, eqb-true l (sent + 1) same))) lost within)

-- the message that was sent last, and the earlier ones
last_message : (sent : List Message) (lost : List ℕ) (m : Message) → All (λ row. row ≤ length sent) lost → message_in (sent ++ m ∷ []) lost (length sent + 1) ≡ Some m
last_message sent lost m within =
    let first : (length sent + 1 == 0) ≡ false = false_from_ne_true _ (λ none. omega (arith, eqb-true (length sent + 1) 0 none)) in
    let place : (length sent + 1) - 1 ≡ length sent = omega arith in
    rw (first, not_lost (length sent) lost within, place) (get_pushed sent m)

earlier_message : (sent : List Message) (lost : List ℕ) (m : Message) (row : ℕ) → row ≢ length sent + 1 → message_in (sent ++ m ∷ []) lost row ≡ message_in sent lost row
earlier_message sent lost m zero other = refl
earlier_message sent lost m (suc row) other =
    let place : suc row - 1 ≡ row = omega arith in
    let kept : slice_get (sent ++ m ∷ []) (suc row - 1) ≡ slice_get sent (suc row - 1) = rw place (get_kept sent m row (λ same. other (omega (arith, same)))) in
    ap (λ found. cond ((suc row == 0) || list_any (λ l. l == suc row) lost) None found) kept

turned : (row place : ℕ) → eq_by_cmp nat_cmp row place ≡ (row == place)
turned row place = unsigned_tied row place

-- a table of no message
pub none_stand : StandsFor (record { sent = 0; live = fin.empty; reserved = 0 }) [] []
none_stand = record {
  sent = refl;
  live = λ row. fin.get-empty nat_cmp row ∙ sym (none_at ((row == 0) || false));
  lost_were_sent = λ k d within. absurd (omega (arith, within));
}
  where
    none_at : (b : Bool) → ◌≡◌ {A = Option Message} (cond b None None) None
    none_at true = refl
    none_at false = refl

-- room says nothing of what a table stands for
pub room_stands : (old new : TableContent) (sent : List Message) (lost : List ℕ) → new.sent ≡ old.sent → new.live ≡ old.live → StandsFor old sent lost → StandsFor new sent lost
room_stands old new sent lost as_many same stands = record {
  sent = as_many ∙ stands.sent;
  live = λ row. ap (λ live. fin.get live row) same ∙ stands.live row;
  lost_were_sent = stands.lost_were_sent;
}

-- one more message
pub sent_stands : (table : TableContent) (sent : List Message) (lost : List ℕ) (m : Message) (room : ℕ) → StandsFor table sent lost
    → StandsFor (record { sent = table.sent + 1; live = fin.insert table.live (table.sent + 1) m; reserved = room }) (sent ++ m ∷ []) lost
sent_stands table sent lost m room stands = record {
  sent = ap (λ n. n + 1) stands.sent ∙ sym (length_push sent m);
  live = λ row. fin.get-insert nat_cmp_total table.live (table.sent + 1) m row ∙ at row (row == table.sent + 1) refl;
  lost_were_sent = All-weaker (λ row. row ≤ length sent) (λ row. row ≤ length (sent ++ m ∷ [])) (λ row small. omega (arith, small, length_push sent m)) lost stands.lost_were_sent;
}
  where
    at : (row : ℕ) (b : Bool) → (row == table.sent + 1) ≡ b → cond (eq_by_cmp nat_cmp row (table.sent + 1)) (Some m) (fin.get table.live row) ≡ message_in (sent ++ m ∷ []) lost row
    at row true is =
        let own : row ≡ length sent + 1 = eqb-true row (table.sent + 1) is ∙ ap (λ n. n + 1) stands.sent in
        ap (λ b. cond b (Some m) (fin.get table.live row)) (turned row (table.sent + 1) ∙ is)
        ∙ sym (ap (message_in (sent ++ m ∷ []) lost) own ∙ last_message sent lost m stands.lost_were_sent)
    at row false is =
        ap (λ b. cond b (Some m) (fin.get table.live row)) (turned row (table.sent + 1) ∙ is) ∙ stands.live row
        ∙ sym (earlier_message sent lost m row (λ own. let yes = eq-eqb row (table.sent + 1) (own ∙ ap (λ n. n + 1) (sym stands.sent)) in cc))

not_first : (row : ℕ) → (suc row == 0) ≡ false
not_first row = false_from_ne_true _ (λ none. omega (arith, eqb-true (suc row) 0 none))

-- a row with a message was sent
was_sent : (sent : List Message) (lost : List ℕ) (row : ℕ) (m : Message) → message_in sent lost row ≡ Some m → row ≤ length sent
was_sent sent lost zero m is = omega arith
was_sent sent lost (suc row) m is = by (list_any (λ l. l == suc row) lost) is
  where
    by : (b : Bool) → cond ((suc row == 0) || b) None (slice_get sent (suc row - 1)) ≡ Some m → suc row ≤ length sent
    by true h = let first : (suc row == 0) ≡ false = not_first row in let no = rw first at h in cc
    by false h =
        let first : (suc row == 0) ≡ false = not_first row in
        let within = slice_get_within sent (suc row - 1) m (rw first at h) in
        omega (arith, within)

-- one that is lost
pub lost_stands : (table : TableContent) (sent : List Message) (lost : List ℕ) (row : ℕ) → fin.contains_key table.live row ≡ true → StandsFor table sent lost
    → StandsFor (record { sent = table.sent; live = fin.remove table.live row; reserved = table.reserved }) sent (row ∷ lost)
lost_stands table sent lost row there stands = record {
  sent = stands.sent;
  live = λ q. fin.get-remove nat_cmp_total table.live row q ∙ at q (row == q) refl;
  lost_were_sent = All-cons (λ l. l ≤ length sent) row lost (of (message_in sent lost row) refl (ap is_some (sym (stands.live row)) ∙ there)) stands.lost_were_sent;
}
  where
    of : (o : Option Message) → message_in sent lost row ≡ o → is_some o ≡ true → row ≤ length sent
    of None is h = cc
    of (Some m) is h = was_sent sent lost row m is

    either : (b : Bool) (found : Option Message) → cond (b || true) None found ≡ None
    either true found = refl
    either false found = refl

    at : (q : ℕ) (b : Bool) → (row == q) ≡ b → cond (eq_by_cmp nat_cmp q row) None (fin.get table.live q) ≡ message_in sent (row ∷ lost) q
    at q true is =
        ap (λ b. cond b None (fin.get table.live q)) (turned q row ∙ nat_eq_equiv.symm q row ∙ is) ∙ sym (ap (λ b. cond ((q == 0) || (b || list_any (λ l. l == q) lost)) None (slice_get sent (q - 1))) is ∙ either (q == 0) (slice_get sent (q - 1)))
    at q false is =
        ap (λ b. cond b None (fin.get table.live q)) (turned q row ∙ nat_eq_equiv.symm q row ∙ is) ∙ stands.live q
        ∙ sym (ap (λ b. cond ((q == 0) || (b || list_any (λ l. l == q) lost)) None (slice_get sent (q - 1))) is)

-- and where there is none, nothing changes
pub remove_absent : (live : FinMap nat_cmp Message) (row : ℕ) → fin.contains_key live row ≡ false → fin.remove live row ≡ live
remove_absent live row absent = fin.same_map nat_cmp_total fin.nat_cmp-IsAntisymmetric _ _ (λ q. fin.get-remove nat_cmp_total live row q ∙ at q (eq_by_cmp nat_cmp q row) refl)
  where
    nothing : (o : Option Message) → is_some o ≡ false → o ≡ None
    nothing None h = refl
    nothing (Some m) h = cc

    at : (q : ℕ) (b : Bool) → eq_by_cmp nat_cmp q row ≡ b → cond b None (fin.get live q) ≡ fin.get live q
    at q true is =
        let same : q ≡ row = eqb-true q row (sym (turned q row) ∙ is) in
        sym (nothing (fin.get live q) (ap (λ r. is_some (fin.get live r)) same ∙ absent))
    at q false is = refl

-- ---- a table and its map

pub copied_is_some : {X : Type 0} (o : Option (Bor X)) → is_some (option_copied o) ≡ is_some o
copied_is_some None = refl
copied_is_some (Some x) = refl

-- what was read of a row says whether it is live
pub read_is_live : (live : FinMap nat_cmp Message) (row : ℕ) (found : Option (Bor Message)) (b : Bool) → option_copied found ≡ fin.get live row → is_some found ≡ b → fin.contains_key live row ≡ b
read_is_live live row found b is some = ap is_some (sym is) ∙ copied_is_some found ∙ some

pub on_ok : {A E : Type 0} (r : Result A E) (P : Type 0) → is_err r ≡ false → OnOk r P → P
on_ok (Ok x) P ok h = h
on_ok (Err e) P ok h = cc

module _ {S : Type 0} (table : TableContent) (sent reserved : ℕ) (rows : IndexMap ℕ Message S) (holds : HoldsRows sent reserved rows)
    (is : ◌≡◌ {A = TableContent} (record { sent = sent; live = live_in rows.entries; reserved = reserved }) table) where
  live_is : live_in rows.entries ≡ table.live
  live_is = ap (λ (t : TableContent). t.live) is

  sent_is : sent ≡ table.sent
  sent_is = ap (λ (t : TableContent). t.sent) is

  reserved_is : reserved ≡ table.reserved
  reserved_is = ap (λ (t : TableContent). t.reserved) is

  -- what the table reports of a row
  pub row_is : (row : ℕ) → fin.get table.live row ≡ get nat_eq rows row
  row_is row = ap (λ live. fin.get live row) (sym live_is) ∙ get_live rows row

  module _ (new : IndexMap ℕ Message S) where
    -- after `send`
    pub sent_value : (m : Message) (room : ℕ) → room ≡ reserved - 1 → ((q : ℕ) → get nat_eq new q ≡ cond (nat_eq (sent + 1) q) (Some m) (get nat_eq rows q))
        → ◌≡◌ {A = TableContent} (record { sent = sent + 1; live = live_in new.entries; reserved = room }) (record { sent = table.sent + 1; live = fin.insert table.live (table.sent + 1) m; reserved = table.reserved - 1 })
    sent_value m room less told i = record {
      sent = sent_is i + 1;
      live = (live_insert rows new (sent + 1) m told ∙ (λ j. fin.insert (live_is j) (sent_is j + 1) m)) i;
      reserved = (less ∙ ap (λ n. n - 1) reserved_is) i;
    }

    -- and no row is there past it
    pub sent_holds : (m : Message) (room : ℕ) → room ≡ reserved - 1 → ((q : ℕ) → get nat_eq new q ≡ cond (nat_eq (sent + 1) q) (Some m) (get nat_eq rows q)) → IsUnique nat_eq new
        → spare rows ≤ spare new + 1 → HoldsRows (sent + 1) room new
    sent_holds m room less told unique left = record {
      unique = unique;
      new = λ q after. told q ∙ ap (λ b. cond b (Some m) (get nat_eq rows q)) (false_from_ne_true (nat_eq (sent + 1) q) (λ same. omega (arith, after, eqb-true (sent + 1) q same))) ∙ holds.new q (omega (arith, after));
      room = omega (arith, less, left, holds.room);
    }

    -- after `lose` of a live row
    pub lost_value : (row : ℕ) → ((q : ℕ) → get nat_eq new q ≡ cond (nat_eq row q) None (get nat_eq rows q))
        → ◌≡◌ {A = TableContent} (record { sent = sent; live = live_in new.entries; reserved = reserved }) (record { sent = table.sent; live = fin.remove table.live row; reserved = table.reserved })
    lost_value row told i = record {
      sent = sent_is i;
      live = (live_remove rows new row told ∙ ap (λ live. fin.remove live row) live_is) i;
      reserved = reserved_is i;
    }

    -- and no row is there that was not
    pub lost_holds : (row : ℕ) → ((q : ℕ) → get nat_eq new q ≡ cond (nat_eq row q) None (get nat_eq rows q)) → IsUnique nat_eq new → spare rows ≤ spare new → HoldsRows sent reserved new
    lost_holds row told unique kept = record {
      unique = unique;
      new = λ q after. told q ∙ gone (nat_eq row q) (holds.new q after);
      room = omega (arith, kept, holds.room);
    }
      where
        gone : (b : Bool) {value : Option Message} → value ≡ None → cond b None value ≡ None
        gone true none = refl
        gone false none = none

    -- after `reserve`
    pub reserved_value : (n : ℕ) → reserved < n → new.entries ≡ rows.entries
        → ◌≡◌ {A = TableContent} (record { sent = sent; live = live_in new.entries; reserved = n }) (record { sent = table.sent; live = table.live; reserved = max table.reserved n })
    reserved_value n more same i = record {
      sent = sent_is i;
      live = (ap live_in same ∙ live_is) i;
      reserved = (let most : n ≡ max table.reserved n = omega (arith, more, reserved_is) in most) i;
    }

    pub reserved_holds : (n : ℕ) → new.entries ≡ rows.entries → IsUnique nat_eq new → n ≤ spare new → HoldsRows sent n new
    reserved_holds n same unique room = record {
      unique = unique;
      new = λ q after. ap (lookup (nat_eq q)) same ∙ holds.new q after;
      room = room;
    }
