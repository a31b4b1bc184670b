-- What a search lists is what the replies showed, unfractured: for `take_found`.
use Rattle.std.proofs.Common.{◌≡◌, ◌+◌, ◌≤◌, List, [], ◌∷◌, ◌++◌, Bool, true, false, ◌&&◌, ◌||◌, ◌==◌, not, ap, sym, ◌∙◌, refl, cond, subst, arith, length, length-append, Option, Some, None}
use Rattle.std.specs.Prelude.{nat_lt}
use Rattle.std.specs.List.{list_any}
use Rattle.std.proofs.lemmas.Bool.{and_parts, eqb-true, not-true}
use Rattle.stamps.specs.Limits.{max_found}
use Rattle.plain_store.specs.FoundKeys.{Findings}
use Rattle.plain_store.specs.declared.calls.Call.{Call}
use Rattle.plain_store.specs.declared.calls.Call.TheVariants.{Get, Found}
use Rattle.plain_store.specs.declared.calls.ReadReply.{ReadReply}
use Rattle.plain_store.specs.declared.calls.Reply.{Reply}
use Rattle.plain_store.specs.declared.calls.Reply.TheVariants.{Get as ToGet, Found as ToFound}
use Rattle.plain_store.specs.declared.message.Message.{Message}
use Rattle.plain_store.specs.declared.reading.Reading.{Reading}
use Rattle.plain_store.specs.Words.{Key, Tag, Stamp, Setup, home}
use Rattle.plain_store.specs.Finding.{keys_found, count_found, all_found, total_found, all_keys_found, carrying}
use Rattle.plain_store.specs.Rounds.{readings}
use Rattle.plain_store.specs.Moves.{Move as PlainMove, Lists, find_move, read_move, is_answered}
use Rattle.get_all.specs.Reading.{has_ended as has_read, is_of_read, IsUnfractured}
use Rattle.get_all.specs.Finding.{has_ended, is_of_search, is_wanted, find_answer}
use Rattle.get_all.specs.TagSearch.{keys_told, HoldsFound, StandsFor}
use Rattle.get_all.specs.declared.tag_search.TagSearch.{TagSearch}
use Rattle.get_all.specs.declared.reader.Reader.{Reader}
use Rattle.get_all.proofs.Law.{read_told, some_same}
use Rattle.get_all.proofs.SearchedKeys.{sorted_none}
use Rattle.plain_store.proofs.SearchesAsk.{total_push}
use Rattle.tenant_sessions.specs.Showing.{ListsWhole}
use Rattle.tenant_sessions.proofs.CallsSoFar.{keys_push, keys_same}
use Rattle.tenant_sessions.proofs.FindMoves.{SearchTells, search_tells}

-- ---- the search

module _ (setup : Setup) (tag : Tag) (taken : List Message) (message : Message) (search : TagSearch) (reader : Reader) (told : List Reading) where
  abbrev after : List Message
  after = taken ++ message ∷ []

  nothing : all_keys_found after ≡ [] → told ≡ [] → ListsWhole tag after told
  nothing none lists =
      let P : List Key → Type 0 = λ keys. IsUnfractured keys after in
      record {
        shown = lists ∙ sym (ap (λ keys. carrying tag (readings keys after)) none);
        unfractured = subst P (sym none) (λ one other version among member got wrote. absurd among);
      }

  by_found : HoldsFound setup search reader taken → length (keys_found message.reply) ≤ count_found message.reply → (tag_asked : Tag) (found : Findings) → message.reply ≡ Some (ToFound found)
      → is_of_search setup taken message.partition (Found tag_asked) (Some (ToFound found)) ≡ true
      → find_move setup tag after message.partition (Found tag_asked) (Some (ToFound found)) ≡ Lists told → ListsWhole tag after told
  by_found h few tag_asked found f of_search lists =
      let parts = subst (λ (m : PlainMove). SearchTells setup (all_found setup after) (total_found after) (all_keys_found after) m) lists
      (search_tells setup (list_any (λ key. not (home setup key == message.partition)) found.keys) (all_found setup after) (total_found after) (all_keys_found after)) in
      let asking = h.asking (not-true (all_found setup taken) (and_parts (not (all_found setup taken)) (nat_lt message.partition setup.partitions) of_search).0) in
      let zero : total_found after ≡ 0 = eqb-true (total_found after) 0 parts.0 in
      let total = total_push taken message in
      let counted : length (keys_told taken) ≡ total_found taken = asking.counted (omega (arith, zero, total)) in
      let keys = keys_push taken message in
      let lengths : length (keys_told after) ≡ length (keys_told taken) + length (keys_found message.reply) = ap length keys ∙ length-append (keys_told taken) (keys_found message.reply) in
      nothing (sorted_none (keys_told after) (omega (arith, lengths, counted, zero, total, few))) parts.1

  by_get : HoldsFound setup search reader taken → has_ended setup taken ≡ false → (key : Key) (at : Option Stamp) (reply : ReadReply) → message.call ≡ Get key at → message.reply ≡ Some (ToGet reply)
      → is_of_search setup taken message.partition (Get key at) (Some (ToGet reply)) ≡ true → not (is_answered taken message.partition (Get key at)) ≡ true
      → find_move setup tag after message.partition (Get key at) (Some (ToGet reply)) ≡ Lists told → ListsWhole tag after told
  by_get h open_yet key at reply e f of_search new lists =
      let keys = all_keys_found taken in
      let both = and_parts (all_found setup taken) (is_of_read keys taken (Get key at) (Some (ToGet reply))) of_search in
      let reading = h.reading both.0 in
      let open_read : has_read keys taken ≡ false =
      sym (ap (λ b. b || (all_found setup taken && (nat_lt max_found (total_found taken) || has_read keys taken))) h.at_home
      ∙ ap (λ b. b && (nat_lt max_found (total_found taken) || has_read keys taken)) both.0
      ∙ ap (λ b. b || has_read keys taken) reading.few) ∙ open_yet in
      let same : all_keys_found after ≡ keys = keys_same taken message (ap keys_found f) in
      let whole = read_told keys taken message (reading.stands.holds open_read).orderly setup (λ rs. Lists (carrying tag rs)) (Lists told) tt (Get key at) (Some (ToGet reply)) e f
      (ap (λ b. b && not (is_answered taken message.partition (Get key at))) both.1 ∙ new)
      (sym (ap (λ ks. read_move setup ks after (λ rs. Lists (carrying tag rs)) (Get key at) (Some (ToGet reply))) same) ∙ lists) in
      let listed : told ≡ carrying tag (readings keys after) = (let move = whole.0 in cc) in
      let P : List Key → Type 0 = λ ks. IsUnfractured ks after in
      record {
        shown = listed ∙ ap (λ ks. carrying tag (readings ks after)) (sym same);
        unfractured = subst P (sym same) whole.1;
      }

  by_call : HoldsFound setup search reader taken → has_ended setup taken ≡ false → length (keys_found message.reply) ≤ count_found message.reply
      → (call : Call) (reply : Option Reply) → message.call ≡ call → message.reply ≡ reply
      → is_of_search setup taken message.partition call reply ≡ true → not (is_answered taken message.partition call) ≡ true
      → find_move setup tag after message.partition call reply ≡ Lists told → ListsWhole tag after told
  by_call h open_yet few (Found tag_asked) (Some (ToFound found)) e f of_search new lists = by_found h few tag_asked found f of_search lists
  by_call h open_yet few (Get key at) (Some (ToGet reply)) e f of_search new lists = by_get h open_yet key at reply e f of_search new lists
  by_call h open_yet few (Get key None) reply e f of_search new lists = cc
  by_call h open_yet few (Get key (Some s)) reply e f of_search new lists = cc
  by_call h open_yet few call reply e f of_search new lists = cc

-- the finder's list is what the replies showed of the keys that were reported, of it what carries the tag, and unfractured
pub lists_whole : (setup : Setup) (tag : Tag) (taken : List Message) (message : Message) (search : TagSearch) (reader : Reader) (told : List Reading) → StandsFor setup tag search reader taken
    → length (keys_found message.reply) ≤ count_found message.reply → find_answer setup tag taken message ≡ Some (Lists told) → ListsWhole tag (taken ++ message ∷ []) told
lists_whole setup tag taken message search reader told s few answered = go (is_wanted setup taken message) refl answered
  where
    go : (b : Bool) → is_wanted setup taken message ≡ b
        → cond b (Some (find_move setup tag (taken ++ message ∷ []) message.partition message.call message.reply)) None ≡ Some (Lists told) → ListsWhole tag (taken ++ message ∷ []) told
    go false e h = cc
    go true e h =
        let wanted = and_parts (not (has_ended setup taken)) _ e in
        let open_yet = not-true (has_ended setup taken) wanted.0 in
        let asked = and_parts (is_of_search setup taken message.partition message.call message.reply) (not (is_answered taken message.partition message.call)) wanted.1 in
        by_call setup tag taken message search reader told (s.holds open_yet) open_yet few message.call message.reply refl refl asked.0 asked.1 (some_same _ _ h)
