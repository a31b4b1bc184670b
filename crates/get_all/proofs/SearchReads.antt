-- For `TagSearch::take`. What a search makes of a reply of the read that it began, and of one that comes before.
use Rattle.std.proofs.Common.{◌≡◌, ℕ, List, [], ◌∷◌, ◌++◌, Bool, true, false, ◌&&◌, ◌||◌, not, map, ap, sym, ◌∙◌, refl, cond, subst, arith, Option, Some, None}
use Rattle.std.specs.Prelude.{nat_lt}
use Rattle.std.proofs.lemmas.Bool.{both_ways}
use Rattle.std.proofs.lemmas.List.{append-nil}
use Rattle.std.proofs.lemmas.List.Sums.{sum_by-append}
use Rattle.std.proofs.lemmas.Grind.{flat_map-append}
use Rattle.stamps.specs.Key.{sorted_keys}
use Rattle.stamps.specs.Limits.{max_found}
use Rattle.plain_store.specs.declared.calls.Call.TheVariants.{Get}
use Rattle.plain_store.specs.declared.calls.ReadReply.{ReadReply}
use Rattle.plain_store.specs.declared.calls.Reply.TheVariants.{Get as ToGet}
use Rattle.plain_store.specs.declared.message.Message.{Message}
use Rattle.plain_store.specs.declared.reading.Reading.{Reading}
use Rattle.plain_store.specs.Words.{Key, Tag, Stamp, Setup}
use Rattle.plain_store.specs.Finding.{below, says_found, keys_found, count_found, all_found, total_found, all_keys_found, carrying}
use Rattle.plain_store.specs.Moves.{Move, Lists, find_move, read_move, is_answered}
use Rattle.plain_store.proofs.ListTests.{any_same, all_alike, map_alike}
use Rattle.get_all.specs.Reading.{has_ended as has_read, is_of_read, is_wanted as is_wanted_read, taken_with as taken_with_read}
use Rattle.get_all.specs.Reader.{StandsFor as StandsForRead, TakesRead, told as told_read, is_last as is_last_read}
use Rattle.get_all.specs.Finding.{is_stray, any_stray, has_ended, is_of_search, is_wanted}
use Rattle.get_all.specs.TagSearch.{told, listed, is_last, keys_told, has_told, asked_after, IsReadingFound, StandsFor, TakesFind}
use Rattle.get_all.specs.declared.reader.Reader.{Reader}
use Rattle.get_all.specs.declared.reader.ReadMove.{ReadMove}
use Rattle.get_all.specs.declared.reader.ReadMove.TheVariants.{Wait as WaitRead, Ask as AskRead, Read, Restart as RestartRead, Torn as TornRead, Ignored as IgnoredRead}
use Rattle.get_all.specs.declared.tag_search.TagSearch.{TagSearch}
use Rattle.get_all.specs.declared.tag_search.FindMove.{FindMove}

module _ (setup : Setup) (tag : Tag) (taken : List Message) (message : Message) where
  abbrev more : List Message
  more = taken ++ message ∷ []

  contrary : {X : Type 0} (b : Bool) → b ≡ true → b ≡ false → X
  contrary b e f = cc

  module _ (key : Key) (t : Option Stamp) (reply : ReadReply) (called : message.call ≡ Get key t) (replied : message.reply ≡ Some (ToGet reply)) where
    told_same : (q : ℕ) → has_told more q ≡ has_told taken q
    told_same q = any_same (λ m. says_found q m.partition m.reply) taken message (ap (says_found q message.partition) replied)

    asked_same : map (asked_after taken) (below setup.partitions) ≡ map (asked_after more) (below setup.partitions)
    asked_same = map_alike (asked_after taken) (asked_after more) (λ q i. record { partition = q; has_told = sym (told_same q) i }) (below setup.partitions)

    keys_same : all_keys_found more ≡ all_keys_found taken
    keys_same =
        ap sorted_keys (flat_map-append (λ (m : Message). keys_found m.reply) taken (message ∷ [])
        ∙ ap (λ ks. keys_told taken ++ ks) (append-nil (keys_found message.reply) ∙ ap keys_found replied) ∙ append-nil (keys_told taken))

    total_same : total_found more ≡ total_found taken
    total_same = sum_by-append (λ (m : Message). count_found m.reply) taken (message ∷ []) ∙ omega (arith, ap count_found replied)

    stray_same : any_stray setup more ≡ any_stray setup taken
    stray_same = any_same (λ m. is_stray setup m.partition m.reply) taken message (ap (is_stray setup message.partition) replied)

    all_same : all_found setup more ≡ all_found setup taken
    all_same = all_alike (has_told more) (has_told taken) told_same (below setup.partitions)

    module _ (f : TagSearch) (reader : Reader) (s : StandsFor setup tag f reader taken) where
      module _ (going : f.has_ended ≡ false) where
        open_get : has_ended setup taken ≡ false
        open_get = sym s.ended ∙ going

        of_get : is_of_search setup taken message.partition message.call message.reply ≡ (all_found setup taken && is_of_read (all_keys_found taken) taken message.call message.reply)
        of_get =
            ap (λ c. is_of_search setup taken message.partition c message.reply) called ∙ ap (is_of_search setup taken message.partition (Get key t)) replied
            ∙ sym (ap (λ c. all_found setup taken && is_of_read (all_keys_found taken) taken c message.reply) called ∙ ap (λ r. all_found setup taken && is_of_read (all_keys_found taken) taken (Get key t) r) replied)

        module _ (reads_now : f.reads ≡ true) where
          all_in_get : all_found setup taken ≡ true
          all_in_get = go (all_found setup taken) refl
            where
              go : (b : Bool) → all_found setup taken ≡ b → all_found setup taken ≡ true
              go true e = e
              go false e = absurd (both_ways f.reads ((s.holds open_get).asking e).unread reads_now)

          reading : IsReadingFound f reader taken
          reading = (s.holds open_get).reading all_in_get

          pub stands_read : StandsForRead (all_keys_found taken) reader taken
          stands_read = reading.stands

          open_read : has_read (all_keys_found taken) taken ≡ false
          open_read =
              sym (ap (λ b. b || (all_found setup taken && (nat_lt max_found (total_found taken) || has_read (all_keys_found taken) taken))) (s.holds open_get).at_home
              ∙ ap (λ b. b && (nat_lt max_found (total_found taken) || has_read (all_keys_found taken) taken)) all_in_get
              ∙ ap (λ b. b || has_read (all_keys_found taken) taken) reading.few) ∙ open_get

          wanted_same : is_wanted setup taken message ≡ is_wanted_read (all_keys_found taken) taken message
          wanted_same =
              ap (λ b. not b && (is_of_search setup taken message.partition message.call message.reply && not (is_answered taken message.partition message.call))) open_get
              ∙ ap (λ b. b && not (is_answered taken message.partition message.call)) of_get
              ∙ ap (λ b. (b && is_of_read (all_keys_found taken) taken message.call message.reply) && not (is_answered taken message.partition message.call)) all_in_get
              ∙ sym (ap (λ b. not b && (is_of_read (all_keys_found taken) taken message.call message.reply && not (is_answered taken message.partition message.call))) open_read)

          abbrev tells : List Reading → Move
          tells = λ rs. Lists (carrying tag rs)

          move_same : find_move setup tag more message.partition message.call message.reply ≡ read_move setup (all_keys_found taken) more tells message.call message.reply
          move_same =
              ap (λ c. find_move setup tag more message.partition c message.reply) called ∙ ap (find_move setup tag more message.partition (Get key t)) replied
              ∙ ap (λ ks. read_move setup ks more tells (Get key t) (Some (ToGet reply))) keys_same
              ∙ sym (ap (λ c. read_move setup (all_keys_found taken) more tells c message.reply) called ∙ ap (read_move setup (all_keys_found taken) more tells (Get key t)) replied)

          told_listed : (a : ReadMove) → told setup (listed tag a) ≡ told_read setup tells a
          told_listed WaitRead = refl
          told_listed (AskRead late) = refl
          told_listed (Read readings) = refl
          told_listed (RestartRead k floor) = refl
          told_listed TornRead = refl
          told_listed IgnoredRead = refl

          last_listed : (a : ReadMove) → is_last (listed tag a) ≡ is_last_read a
          last_listed WaitRead = refl
          last_listed (AskRead late) = refl
          last_listed (Read readings) = refl
          last_listed (RestartRead k floor) = refl
          last_listed TornRead = refl
          last_listed IgnoredRead = refl

          pub reads : (a : ReadMove) (next : Reader) → TakesRead (all_keys_found taken) taken message a next → (after : TagSearch) → after.tag ≡ f.tag → after.parts ≡ f.parts → after.asked ≡ f.asked
              → after.reads ≡ true → after.has_ended ≡ (f.has_ended || is_last_read a) → (answer : FindMove) → answer ≡ listed f.tag a → TakesFind setup tag taken message answer after next
          reads a next took after tagged parts asks still_reads over answer is_listed =
              let of_tag : answer ≡ listed tag a = is_listed ∙ ap (λ g. listed g a) s.tagged in
              let closed : has_read (all_keys_found taken) (taken_with_read (all_keys_found taken) taken message) ≡ is_last_read a = took.last ∙ ap (λ b. b || is_last_read a) open_read in
              let at = stands_with (is_wanted_read (all_keys_found taken) taken message) took.stands closed in
              let P : Bool → Type 0 = λ b. StandsFor setup tag after next (cond b more taken) in
              record {
                answered =
                    ap (told setup) of_tag ∙ told_listed a ∙ took.answered setup tells
                    ∙ sym (ap (λ b. cond b (Some (find_move setup tag more message.partition message.call message.reply)) None) wanted_same
                    ∙ ap (λ m. cond (is_wanted_read (all_keys_found taken) taken message) (Some m) None) move_same);
                stands = subst P (sym wanted_same) at.0;
                last =
                    ap (λ b. has_ended setup (cond b more taken)) wanted_same ∙ at.1 ∙ sym (last_listed a) ∙ ap is_last (sym of_tag)
                    ∙ sym (ap (λ b. b || is_last answer) open_get);
              }
            where
              at_list : (T : List Message) → map (asked_after taken) (below setup.partitions) ≡ map (asked_after T) (below setup.partitions) → any_stray setup T ≡ false → all_found setup T ≡ true → nat_lt max_found (total_found T) ≡ false
                  → all_keys_found T ≡ all_keys_found taken → StandsForRead (all_keys_found taken) next T → has_read (all_keys_found taken) T ≡ is_last_read a
                  → StandsFor setup tag after next T × (has_ended setup T ≡ is_last_read a)
              at_list T same home_all all few keys stands closes =
                  let ended : has_ended setup T ≡ is_last_read a =
                  ap (λ b. b || (all_found setup T && (nat_lt max_found (total_found T) || has_read (all_keys_found T) T))) home_all
                  ∙ ap (λ b. b && (nat_lt max_found (total_found T) || has_read (all_keys_found T) T)) all
                  ∙ ap (λ b. b || has_read (all_keys_found T) T) few ∙ ap (λ ks. has_read ks T) keys ∙ closes in
                  let P : List Key → Type 0 = λ ks. StandsForRead ks next T in (
                    record {
                      tagged = tagged ∙ s.tagged;
                      parts = parts ∙ s.parts;
                      ended = over ∙ ap (λ b. b || is_last_read a) going ∙ sym ended;
                      holds = λ o. record {
                        asked = asks ∙ (s.holds open_get).asked ∙ same;
                        at_home = home_all;
                        asking = λ unasked. contrary (all_found setup T) all unasked;
                        reading = λ all_t. record { reads = still_reads; few = few; stands = subst P (sym keys) stands };
                      };
                    },
                    ended,
                  )

              stands_with : (b : Bool) → StandsForRead (all_keys_found taken) next (cond b more taken) → has_read (all_keys_found taken) (cond b more taken) ≡ is_last_read a
                  → StandsFor setup tag after next (cond b more taken) × (has_ended setup (cond b more taken) ≡ is_last_read a)
              stands_with true stands closes =
                  at_list more asked_same (stray_same ∙ (s.holds open_get).at_home) (all_same ∙ all_in_get) (ap (nat_lt max_found) total_same ∙ reading.few) keys_same stands closes
              stands_with false stands closes = at_list taken refl (s.holds open_get).at_home all_in_get reading.few refl stands closes
