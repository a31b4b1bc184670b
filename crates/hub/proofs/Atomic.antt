-- What a seat reads is read atomic: for the laws of reads.
use Rattle.std.proofs.Common.{◌≡◌, ◌⊎◌, ◌∙◌, ◌≤◌, ◌++◌, ◌∷◌, [], ◌&&◌, ◌||◌, ◌==◌, ℕ, List, Bool, true, false, Option, Some, None, cond, not, nat_lt, eqb-true, inl, inr, refl, sym, ap, subst, arith}
use Rattle.std.specs.Prelude.{bytes_eq}
use Rattle.std.specs.List.{list_any}
use mathlib.Core.HLevel.{⊥_prop}
use Rattle.std.proofs.Math.Logic.{∥∥₁_elim, ∥∥₁_map, ∥∥₁_map₂, ∥∥₁_prop}
use Rattle.std.proofs.lemmas.Bool.{and_parts, ltb-false, ltb-true, not-true}
use Rattle.stamps.specs.Limits.{max_found}
use Rattle.plain_store.specs.declared.calls.Call.{Call}
use Rattle.plain_store.specs.declared.calls.Call.TheVariants.{Prepare, Commit, Get, Found, Collect, Discard}
use Rattle.plain_store.specs.declared.calls.ReadReply.TheVariants.{Version}
use Rattle.plain_store.specs.declared.calls.Reply.{Reply}
use Rattle.plain_store.specs.declared.calls.Reply.TheVariants.{Get as ToGet, Found as ToFound}
use Rattle.plain_store.specs.declared.message.Message.{Message}
use Rattle.plain_store.specs.declared.reading.Reading.{Reading}
use Rattle.plain_store.specs.declared.refusal.Refusal.TheVariants.{Torn, TooMany}
use Rattle.plain_store.specs.Finding.{all_found, all_keys_found, carrying, total_found}
use Rattle.plain_store.specs.History.{Intent as Asked, Gets, Finds}
use Rattle.plain_store.specs.Laws.{IsInitial}
use Rattle.plain_store.specs.Moves.{Begins, Fails, Lists, Move, Reads, Waits, find_move, read_move, search_move}
use Rattle.plain_store.specs.Rounds.{first_calls, flat, is_false_second, is_late, needed, reading_of, readings, seen_first, seen_second, version_read}
use Rattle.plain_store.specs.Words.{◌∈◌, Item, Key, Record, Setup, Stamp, Tag, home, is_tagged}
use Rattle.plain_store.specs.Writing.{keys_written, record_for}
use Rattle.plain_store.proofs.Atomic.{IsSeen}
use Rattle.plain_store.proofs.ListTests.{or_parts}
use Rattle.plain_store.proofs.Members.{any_from, in_cases, in_filter, in_map}
use Rattle.plain_store.proofs.Seen.{listed_from, needed_is, seen_first_is, seen_second_is, sorted_in}
use Rattle.get_all.specs.Reading.{IsUnfractured, any_last, is_last_reply, read_answer}
use Rattle.get_all.specs.Reading.{has_ended as has_read, is_wanted as is_wanted_read}
use Rattle.get_all.specs.Finding.{any_stray, find_answer, is_of_search}
use Rattle.get_all.specs.Finding.{has_ended as has_found, is_wanted as is_wanted_found}
use Rattle.entry_list.specs.declared.kinds.Entry.{Entry}
use Rattle.entry_list.specs.declared.kinds.Entry.TheVariants as kinds
use Rattle.history.specs.declared.entry.HistoryEntry.{HistoryEntry}
use Rattle.history.specs.declared.entry.HistoryEntry.TheVariants.{Began}
use Rattle.history.specs.declared.entry.ServedCall.{ServedCall}
use Rattle.history.specs.declared.entry.Write.{Write}
use Rattle.history.specs.Entries.{StandsInHistory}
use Rattle.history.specs.Legal.{IsDecided, IsLegal, IsOfWrite}
use Rattle.history.proofs.Following.{of_its_write}
use Rattle.history.proofs.Shown.{shows_decided, shows_writes}
use Rattle.shard.specs.Journals.{served_call}
use Rattle.tenant_sessions.specs.Showing.{IsCallFor}
use Rattle.hub.specs.Atomic.{IsReadAtomic, WasWritten}
use Rattle.hub.specs.Replies.{AreAmong, IsListOf, IsReadOf, IsReplyIn}
use Rattle.hub.specs.Sights.{OperationSight}
use Rattle.hub.proofs.Evidence.{reply_of}

-- what is read is what one of the rounds showed
read_is : (keys : List Key) (replies : List Message) (key : Key) (version : Record) → version_read keys replies key ≡ Some version → IsSeen keys replies key version
read_is keys replies key version is = go (is_late keys replies key) refl is
  where
    first : (o : Option (Option Record)) → seen_first replies key ≡ o → flat o ≡ Some version → IsSeen keys replies key version
    first None e k = cc
    first (Some None) e k = cc
    first (Some (Some v)) e k = let same : v ≡ version = cc in inr (e ∙ ap (λ x. Some (Some x)) same)

    go : (b : Bool) → is_late keys replies key ≡ b → cond b (seen_second replies key (needed keys replies key)) (flat (seen_first replies key)) ≡ Some version → IsSeen keys replies key version
    go true late e = inl (late, e)
    go false late e = first (seen_first replies key) refl e

-- ---- the replies stand in the history

-- the GET that was served, in its first round or in its second
pub record GetFor (call : Call) (key : Key) (at : Option Stamp) : Type 0 where
  pub asked : Option Stamp
  pub is : call ≡ Get key asked
  pub first : at ≡ None → asked ≡ None

pub get_for : (call told : Call) (key : Key) (at : Option Stamp) → told ≡ Get key at → IsCallFor call told → GetFor call key at
get_for (Get k None) told key at is for =
    let same : Get k None ≡ Get key at = sym for ∙ is in
    record { asked = None; is = (let e : ◌≡◌ {A = Key} k key = cc in ap (λ (j : Key). Get j None) e); first = λ none. refl }
get_for (Get k (Some s)) told key at is for =
    let same : Get k (Some for.0) ≡ Get key at = sym for.1 ∙ is in
    record { asked = Some s; is = (let e : ◌≡◌ {A = Key} k key = cc in ap (λ (j : Key). Get j (Some s)) e); first = λ none. (let no : Get k (Some for.0) ≡ Get key None = same ∙ ap (Get key) none in cc) }
get_for (Prepare version) told key at is for = let no : Prepare (record version { stamp = for.0 }) ≡ Get key at = sym for.1 ∙ is in cc
get_for (Commit stamp) told key at is for = let no : Commit for.0 ≡ Get key at = sym for.1 ∙ is in cc
get_for (Found tag) told key at is for = let no : Found tag ≡ Get key at = sym for ∙ is in cc
get_for (Collect keep) told key at is for = let no : Collect keep ≡ Get key at = sym for ∙ is in cc
get_for (Discard stamp) told key at is for = let no : Discard stamp ≡ Get key at = sym for ∙ is in cc

-- a version that a GET was answered with
record WasServed (seen : List HistoryEntry) (tenant : ℕ) (key : Key) (at : Option Stamp) (version : Record) : Type 0 where
  served : ServedCall
  place : ℕ
  get : GetFor served.call key at
  its : served.tenant ≡ tenant
  stands : StandsInHistory seen served place (ToGet (Version version))

-- what a put wrote, to this key
abbrev IsWritten : List HistoryEntry → ℕ → Key → Record → Type 0
IsWritten seen tenant key version = IsOfWrite seen tenant version × (version.key ≡ key)

written_of : (seen : List HistoryEntry) (tenant : ℕ) (key : Key) (at : Option Stamp) (version : Record) → IsLegal seen → WasServed seen tenant key at version → ∥ IsWritten seen tenant key version ∥₁
written_of seen tenant key at version legal w =
    let told = shows_writes seen legal w.served w.place key w.get.asked version w.get.is w.stands in
    let P : ℕ → Type 0 = λ t. IsOfWrite seen t version in
    ∥∥₁_map told.0 (λ of. (subst P w.its of, told.1))

decided_of : (seen : List HistoryEntry) (tenant : ℕ) (key : Key) (version : Record) → IsLegal seen → WasServed seen tenant key None version → ∥ IsDecided seen tenant version.stamp ∥₁
decided_of seen tenant key version legal w =
    let P : ℕ → Type 0 = λ t. ∥ IsDecided seen t version.stamp ∥₁ in
    subst P w.its (shows_decided seen legal w.served w.place key version (w.get.is ∙ ap (Get key) (w.get.first refl)) w.stands)

-- a version that is told for a GET of a stamp has it
abbrev pub AreOfStamps : List Message → Type 0
AreOfStamps replies = (message : Message) (key : Key) (stamp : Stamp) (version : Record) → message ∈ replies → message.call ≡ Get key (Some stamp) → message.reply ≡ Some (ToGet (Version version)) → version.stamp ≡ stamp

module _ (sight : OperationSight) (legal : IsLegal sight.seen) (asked : Asked) (replies : List Message) (entries : List Entry) (among : AreAmong sight asked replies entries) where
  served_in : (key : Key) (at : Option Stamp) (version : Record) (message : Message) → message.call ≡ Get key at → message.reply ≡ Some (ToGet (Version version)) → (entry : Entry) → IsReplyIn sight asked message entry
      → ∥ WasServed sight.seen sight.tenant key at version ∥₁
  served_in key at version message call reply (kinds.Began act) is = absurd is
  served_in key at version message call reply (kinds.Answered answer) is = absurd is
  served_in key at version message call reply (kinds.Took number partition place told) is =
      let told_is : told ≡ ToGet (Version version) = (let e : Some told ≡ Some (ToGet (Version version)) = sym is.0 ∙ reply in cc) in
      ∥∥₁_map is.1 (λ given.
      let P : Reply → Type 0 = λ r. StandsInHistory sight.seen (served_call partition sight.tenant sight.seat number given.0) place r in
      record {
        served = served_call partition sight.tenant sight.seat number given.0;
        place = place;
        get = get_for given.0 message.call key at call given.1;
        its = refl;
        stands = subst P told_is given.3.stands;
      })

  was_served : (key : Key) (at : Option Stamp) (version : Record) (message : Message) → message ∈ replies → message.call ≡ Get key at → message.reply ≡ Some (ToGet (Version version))
      → ∥ WasServed sight.seen sight.tenant key at version ∥₁
  was_served key at version message has call reply =
      let found = reply_of sight asked replies entries message among has in served_in key at version message call reply found.0 found.1

  seen_in : (keys : List Key) (key : Key) (version : Record) → IsSeen keys replies key version → ∥ IsWritten sight.seen sight.tenant key version ∥₁
  seen_in keys key version (inl late) =
      let m = seen_second_is replies key (needed keys replies key) version late.1 in
      ∥∥₁_elim (was_served key (Some (needed keys replies key)) version m.0 m.1 m.2 m.3) ∥∥₁_prop (λ w. written_of sight.seen sight.tenant key (Some (needed keys replies key)) version legal w)
  seen_in keys key version (inr first) =
      let m = seen_first_is replies key version first in
      ∥∥₁_elim (was_served key None version m.0 m.1 m.2 m.3) ∥∥₁_prop (λ w. written_of sight.seen sight.tenant key None version legal w)

  first_decided : (key : Key) (version : Record) → seen_first replies key ≡ Some (Some version) → ∥ IsDecided sight.seen sight.tenant version.stamp ∥₁
  first_decided key version first =
      let m = seen_first_is replies key version first in
      ∥∥₁_elim (was_served key None version m.0 m.1 m.2 m.3) ∥∥₁_prop (λ w. decided_of sight.seen sight.tenant key version legal w)

  -- the version that is needed of a late key is one that round one announced
  seen_decided : (keys : List Key) (key : Key) (version : Record) → AreOfStamps replies → IsSeen keys replies key version → ∥ IsDecided sight.seen sight.tenant version.stamp ∥₁
  seen_decided keys key version stamps (inl late) =
      let m = seen_second_is replies key (needed keys replies key) version late.1 in
      let n = needed_is keys replies key late.0 in
      let P : Stamp → Type 0 = λ s. ∥ IsDecided sight.seen sight.tenant s ∥₁ in
      subst P (n.5 ∙ sym (stamps m.0 key (needed keys replies key) version m.1 m.2 m.3)) (first_decided n.0 n.1 n.3)
  seen_decided keys key version stamps (inr first) = first_decided key version first

  told_by_put : (keys : List Key) (key : Key) → AreOfStamps replies → (o : Option Record) → version_read keys replies key ≡ o → IsInitial (reading_of key o) ⊎ ∥ WasWritten sight.seen sight.tenant (reading_of key o) ∥₁
  told_by_put keys key stamps None is = inl (refl, refl)
  told_by_put keys key stamps (Some version) is =
      let seen = read_is keys replies key version is in
      inr (∥∥₁_map₂ (seen_in keys key version seen) (seen_decided keys key version stamps seen) (λ w decided.
      let of = w.0 in
      let P : Item → Type 0 = λ i. i ∈ of.write.items in
      record {
        write = of.write;
        began = of.began;
        its = (of.its, sym (ap (λ (v : Record). v.stamp) of.is));
        among = subst P (sym (ap (λ (v : Record). (reading_of key (Some v)).item) of.is)) of.among;
        decided = decided;
      }))

  -- the key of a reading is the one that was asked
  pub key_told : (keys : List Key) (key : Key) (o : Option Record) → version_read keys replies key ≡ o → ∥ ((reading_of key o).item.key ≡ key) ∥₁
  key_told keys key None is = ∣ refl ∣₁
  key_told keys key (Some version) is = ∥∥₁_map (seen_in keys key version (read_is keys replies key version is)) (λ w. w.1)

  no_older : (keys : List Key) (one other : Key) (write : Write) → IsUnfractured keys replies → one ∈ keys → other ∈ keys → Began write ∈ sight.seen → write.tenant ≡ sight.tenant
      → (o : Option Record) → version_read keys replies one ≡ o → write.stamp ≡ (reading_of one o).stamp
      → (reading_of other (version_read keys replies other)).item.key ∈ keys_written write.items
      → (reading_of one o).stamp ≤ (reading_of other (version_read keys replies other)).stamp
  no_older keys one other write whole h k began tenant None is stamp has = omega arith
  no_older keys one other write whole h k began tenant (Some version) is stamp has = go (nat_lt told version.stamp) refl
    where
      told : Stamp
      told = (reading_of other (version_read keys replies other)).stamp

      -- its write set has the other key
      listed : IsWritten sight.seen sight.tenant one version → (reading_of other (version_read keys replies other)).item.key ≡ other
          → (item : Item) × (item ∈ write.items) × (version ≡ record_for write.stamp write.items item) → version.stamp ≤ told
      listed w same o =
          let P : Key → Type 0 = λ j. j ∈ keys_written write.items in
          let Q : List Key → Type 0 = λ ws. other ∈ ws in
          let there : other ∈ version.writes = subst Q (sym (ap (λ (v : Record). v.writes) o.2)) (sorted_in (keys_written write.items) other (subst P same has)) in
          whole one other version h k is (listed_from version.writes other there)

      go : (b : Bool) → nat_lt told version.stamp ≡ b → version.stamp ≤ told
      go false not_below = ltb-false told version.stamp not_below
      go true below =
          absurd (∥∥₁_elim (seen_in keys one version (read_is keys replies one version is)) ⊥_prop (λ w.
          ∥∥₁_elim (key_told keys other (version_read keys replies other) refl) ⊥_prop (λ same.
          ∥∥₁_elim (of_its_write sight.seen legal sight.tenant version write ∣ w.0 ∣₁ began tenant stamp) ⊥_prop (λ o.
          let most = listed w same o in let less = ltb-true told version.stamp below in omega (arith, most, less)))))

  readings_read_atomic : (keys : List Key) → IsUnfractured keys replies → AreOfStamps replies → IsReadAtomic sight.seen sight.tenant (readings keys replies)
  readings_read_atomic keys whole stamps = record {
    each = λ reading has.
        let i = in_map (λ (key : Key). reading_of key (version_read keys replies key)) keys reading has in
        let P : Reading → Type 0 = λ r. IsInitial r ⊎ ∥ WasWritten sight.seen sight.tenant r ∥₁ in
        subst P (sym i.2) (told_by_put keys i.0 stamps (version_read keys replies i.0) refl);
    unfractured = λ one other write h k began tenant stamp has.
        let i = in_map (λ (key : Key). reading_of key (version_read keys replies key)) keys one h in
        let j = in_map (λ (key : Key). reading_of key (version_read keys replies key)) keys other k in
        let P : Reading → Type 0 = λ r. r.stamp ≤ other.stamp in
        let Q : Reading → Type 0 = λ r. (reading_of i.0 (version_read keys replies i.0)).stamp ≤ r.stamp in
        let R : Reading → Type 0 = λ r. r.item.key ∈ keys_written write.items in
        subst P (sym i.2) (subst Q (sym j.2)
        (no_older keys i.0 j.0 write whole i.1 j.1 began tenant (version_read keys replies i.0) refl (stamp ∙ ap (λ (r : Reading). r.stamp) i.2) (subst R j.2 has)));
  }

-- so is a part of it
part_read_atomic : (seen : List HistoryEntry) (tenant : ℕ) (part whole : List Reading) → ((reading : Reading) → reading ∈ part → reading ∈ whole) → IsReadAtomic seen tenant whole → IsReadAtomic seen tenant part
part_read_atomic seen tenant part whole within atomic = record {
  each = λ reading has. atomic.each reading (within reading has);
  unfractured = λ one other write h k. atomic.unfractured one other write (within one h) (within other k);
}

-- ---- replies that were not false

not_false : (b : Bool) → not b ≡ false → b ≡ true
not_false true e = cc
not_false false e = cc

true_stamp : (replies : List Message) (key : Key) (stamp : Stamp) (version : Record) → is_false_second replies key stamp (Version version) ≡ false → version.stamp ≡ stamp
true_stamp replies key stamp version fine =
    let rest = (or_parts (not (bytes_eq version.key key)) _ fine).1 in
    eqb-true version.stamp stamp (not_false (version.stamp == stamp) (or_parts (not (version.stamp == stamp)) _ rest).0)

none_from : {X : Type 0} (p : X → Bool) (xs : List X) (x : X) → list_any p xs ≡ false → x ∈ xs → p x ≡ false
none_from p xs x none has = go (p x) refl
  where
    go : (b : Bool) → p x ≡ b → b ≡ false
    go false is = refl
    go true is = let no : true ≡ false = sym (any_from p xs x has is) ∙ none in cc

taken_stamp : (taken : List Message) (message : Message) (key : Key) (stamp : Stamp) (version : Record) → any_last taken taken ≡ false → message ∈ taken → message.call ≡ Get key (Some stamp) → message.reply ≡ Some (ToGet (Version version))
    → version.stamp ≡ stamp
taken_stamp taken message key stamp version none has call reply =
    let fine = none_from (λ (m : Message). is_last_reply taken m.call m.reply) taken message none has in
    let P : Call → Type 0 = λ c. is_last_reply taken c message.reply ≡ false in
    let Q : Option Reply → Type 0 = λ r. is_last_reply taken (Get key (Some stamp)) r ≡ false in
    true_stamp taken key stamp version (subst Q reply (subst P call fine))

-- what a read or a search reports at its end
abbrev pub IsToldAt : Move → Type 0
IsToldAt (Reads readings) = Unit {0}
IsToldAt (Lists readings) = Unit {0}
IsToldAt move = ⊥

not_torn : (b : Bool) (rest told : Move) → IsToldAt told → cond b (Fails Torn []) rest ≡ told → b ≡ false
not_torn true rest told tells is = absurd (subst IsToldAt (sym is) tells)
not_torn false rest told tells is = refl

last_stamp : (setup : Setup) (keys : List Key) (replies : List Message) (tells : List Reading → Move) (told : Move) (message : Message) (key : Key) (stamp : Stamp) (version : Record) → IsToldAt told
    → read_move setup keys replies tells message.call message.reply ≡ told → message.call ≡ Get key (Some stamp) → message.reply ≡ Some (ToGet (Version version)) → version.stamp ≡ stamp
last_stamp setup keys replies tells told message key stamp version ends moves call reply =
    let P : Call → Type 0 = λ c. read_move setup keys replies tells c message.reply ≡ told in
    let Q : Option Reply → Type 0 = λ r. read_move setup keys replies tells (Get key (Some stamp)) r ≡ told in
    true_stamp replies key stamp version (not_torn (is_false_second replies key stamp (Version version)) _ told ends (subst Q reply (subst P call moves)))

-- of all that were taken
stamps_of : (taken : List Message) (last : Message) → any_last taken taken ≡ false
    → ((key : Key) (stamp : Stamp) (version : Record) → last.call ≡ Get key (Some stamp) → last.reply ≡ Some (ToGet (Version version)) → version.stamp ≡ stamp) → AreOfStamps (taken ++ last ∷ [])
stamps_of taken last none at_last message key stamp version has call reply = go (in_cases taken (last ∷ []) message has)
  where
    go : (message ∈ taken) ⊎ (message ∈ (last ∷ [])) → version.stamp ≡ stamp
    go (inl before) = taken_stamp taken message key stamp version none before call reply
    go (inr (inl same)) =
        at_last key stamp version (ap (λ (m : Message). m.call) (sym same) ∙ call) (ap (λ (m : Message). m.reply) (sym same) ∙ reply)
    go (inr (inr none)) = absurd none

some_is : (m n : Move) → Some m ≡ Some n → m ≡ n
some_is m n is = cc

pub read_stamps : (setup : Setup) (keys : List Key) (taken : List Message) (last : Message) (told : List Reading) → read_answer setup keys Reads taken last ≡ Some (Reads told) → AreOfStamps (taken ++ last ∷ [])
read_stamps setup keys taken last told answers = go (is_wanted_read keys taken last) refl answers
  where
    go : (b : Bool) → is_wanted_read keys taken last ≡ b → cond b (Some (read_move setup keys (taken ++ last ∷ []) Reads last.call last.reply)) None ≡ Some (Reads told) → AreOfStamps (taken ++ last ∷ [])
    go false wanted is = cc
    go true wanted is =
        let unended = not-true (has_read keys taken) (and_parts (not (has_read keys taken)) _ wanted).0 in
        stamps_of taken last (or_parts (any_last taken taken) _ unended).0
        (λ key stamp version call reply. last_stamp setup keys (taken ++ last ∷ []) Reads (Reads told) last key stamp version tt (some_is _ _ is) call reply)

-- what a seat reads is read atomic
pub reads_atomic : (sight : OperationSight) (keys : List Key) (start entries : List Entry) (told : List Reading) → IsLegal sight.seen → IsReadOf sight keys start entries told → IsReadAtomic sight.seen sight.tenant told
reads_atomic sight keys start entries told legal from =
    let setup : Setup = record { partitions = 1; room = record { slots = 0; items = 0; clients = 0 }; keep = 0 } in
    let replies = from.taken ++ from.last ∷ [] in
    let P : List Reading → Type 0 = λ rs. IsReadAtomic sight.seen sight.tenant rs in
    subst P (sym from.answers.whole.shown)
    (readings_read_atomic sight legal (Gets keys) replies from.more from.among keys from.answers.whole.unfractured (read_stamps setup keys from.taken from.last told (from.answers.answers setup)))

-- ---- a search

abbrev pub carries : Tag → List Reading → Move
carries tag told = Lists (carrying tag told)

-- where not all partitions had told before, nothing was found
none_found : (setup : Setup) (tag : Tag) (taken replies : List Message) (last : Message) (told : List Reading) → all_found setup taken ≡ false → is_of_search setup taken last.partition last.call last.reply ≡ true
    → find_move setup tag replies last.partition last.call last.reply ≡ Lists told → told ≡ []
none_found setup tag taken replies last told before wanted is = go last.call last.reply wanted is
  where
    searched : (a b : Bool) (calls : Move) → cond a (Fails TooMany []) (cond b (Lists []) calls) ≡ Lists told → calls ≡ Begins (first_calls setup (all_keys_found replies)) → told ≡ []
    searched true b calls e same = cc
    searched false true calls e same = cc
    searched false false calls e same = let no : Begins (first_calls setup (all_keys_found replies)) ≡ Lists told = sym same ∙ e in cc

    found : (a b : Bool) → cond a (Fails Torn []) (cond b (search_move setup (total_found replies) (all_keys_found replies)) Waits) ≡ Lists told → told ≡ []
    found true b e = cc
    found false false e = cc
    found false true e = searched (nat_lt max_found (total_found replies)) (total_found replies == 0) (Begins (first_calls setup (all_keys_found replies))) e refl

    past : (b : Bool) → (all_found setup taken && b) ≡ true → told ≡ []
    past b e = let no : false ≡ true = sym before ∙ (and_parts (all_found setup taken) b e).0 in cc

    go : (call : Call) (reply : Option Reply) → is_of_search setup taken last.partition call reply ≡ true → find_move setup tag replies last.partition call reply ≡ Lists told → told ≡ []
    go (Found g) (Some (ToFound there)) wanted is = found (list_any (λ key. not (home setup key == last.partition)) there.keys) (all_found setup replies) is
    go (Found g) (Some (ToGet r)) wanted is = past _ wanted
    go (Found g) None wanted is = past _ wanted
    go (Get key at) reply wanted is = past _ wanted
    go (Prepare version) reply wanted is = past _ wanted
    go (Commit stamp) reply wanted is = past _ wanted
    go (Collect keep) reply wanted is = past _ wanted
    go (Discard stamp) reply wanted is = past _ wanted
    go (Found g) reply wanted is = past _ wanted

-- the move of its read
get_moves : (setup : Setup) (tag : Tag) (replies : List Message) (message : Message) (told : Move) (key : Key) (stamp : Stamp) → message.call ≡ Get key (Some stamp)
    → find_move setup tag replies message.partition message.call message.reply ≡ told → read_move setup (all_keys_found replies) replies (carries tag) message.call message.reply ≡ told
get_moves setup tag replies message told key stamp call moves =
    let P : Call → Type 0 = λ c. read_move setup (all_keys_found replies) replies (carries tag) c message.reply ≡ told in
    let Q : Call → Type 0 = λ c. find_move setup tag replies message.partition c message.reply ≡ told in
    subst P (sym call) (subst Q call moves)

-- a search that lists something took replies of the stamps that were asked
pub list_stamps : (setup : Setup) (tag : Tag) (taken : List Message) (last : Message) (told : List Reading) → find_answer setup tag taken last ≡ Some (Lists told) → (told ≡ []) ⊎ AreOfStamps (taken ++ last ∷ [])
list_stamps setup tag taken last told answers = go (is_wanted_found setup taken last) refl answers
  where
    replies : List Message
    replies = taken ++ last ∷ []

    by : (b : Bool) → all_found setup taken ≡ b → has_found setup taken ≡ false → is_of_search setup taken last.partition last.call last.reply ≡ true
        → find_move setup tag replies last.partition last.call last.reply ≡ Lists told → (told ≡ []) ⊎ AreOfStamps replies
    by false before unended of is = inl (none_found setup tag taken replies last told before of is)
    by true before unended of is =
        let rest = (or_parts (any_stray setup taken) _ unended).1 in
        let P : Bool → Type 0 = λ b. (b && (nat_lt max_found (total_found taken) || has_read (all_keys_found taken) taken)) ≡ false in
        let unread = (or_parts (nat_lt max_found (total_found taken)) _ (subst P before rest)).1 in
        inr (stamps_of taken last (or_parts (any_last taken taken) _ unread).0
        (λ key stamp version call reply.
        last_stamp setup (all_keys_found replies) replies (carries tag) (Lists told) last key stamp version tt (get_moves setup tag replies last (Lists told) key stamp call is) call reply))

    go : (b : Bool) → is_wanted_found setup taken last ≡ b → cond b (Some (find_move setup tag replies last.partition last.call last.reply)) None ≡ Some (Lists told) → (told ≡ []) ⊎ AreOfStamps replies
    go false wanted is = cc
    go true wanted is =
        let unended = not-true (has_found setup taken) (and_parts (not (has_found setup taken)) _ wanted).0 in
        let of = (and_parts (is_of_search setup taken last.partition last.call last.reply) _ (and_parts (not (has_found setup taken)) _ wanted).1).0 in
        by (all_found setup taken) refl unended of (some_is _ _ is)

-- what a seat lists is read atomic
pub lists_atomic : (sight : OperationSight) (setup : Setup) (tag : Tag) (start entries : List Entry) (told : List Reading) → IsLegal sight.seen → IsListOf sight setup tag start entries told → IsReadAtomic sight.seen sight.tenant told
lists_atomic sight setup tag start entries told legal from = go (list_stamps setup tag from.taken from.last told from.answers.answers)
  where
    replies : List Message
    replies = from.taken ++ from.last ∷ []

    keys : List Key
    keys = all_keys_found replies

    P : List Reading → Type 0
    P rs = IsReadAtomic sight.seen sight.tenant rs

    go : (told ≡ []) ⊎ AreOfStamps replies → P told
    go (inl none) = subst P (sym none) (record { each = λ reading has. absurd has; unfractured = λ one other write h. absurd h })
    go (inr stamps) =
        subst P (sym from.answers.whole.shown)
        (part_read_atomic sight.seen sight.tenant (carrying tag (readings keys replies)) (readings keys replies) (λ reading has. (in_filter (λ (r : Reading). is_tagged tag r.item.tag) (readings keys replies) reading has).0)
        (readings_read_atomic sight legal (Finds tag) replies from.more from.among keys from.answers.whole.unfractured stamps))
