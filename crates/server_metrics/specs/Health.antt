-- Whether a server is well, and of which limits little is left.
use Rattle.std.specs.Prelude.{ℕ, ◌-◌, ◌/◌, ◌++◌, ◌||◌, Bool, not, nat_le, nat_lt, if◌then◌else◌, List, [], codes, decimal}
use Rattle.std.specs.List.{flat_map, list_any}
use Rattle.server_metrics.specs.MetricsText.{is_well}
use Rattle.server_metrics.specs.Responses.{words_of}
use Rattle.server_metrics.specs.declared.answer.Status.{Status}
use Rattle.server_metrics.specs.declared.answer.Status.TheVariants.{Well, NotWell, Full}
use Rattle.server_metrics.specs.declared.metrics.ServerReadings.{ServerReadings}
use Rattle.server_metrics.specs.declared.metrics.Row.{Row}

-- nothing is left of a limit of which so much is used
abbrev pub is_used_up : ℕ → ℕ → Bool
is_used_up used limit = nat_le limit used

-- less than a quarter is left of it
abbrev pub is_scarce : ℕ → ℕ → Bool
is_scarce used limit = is_used_up used limit || nat_lt (limit - used) (limit / 4)

-- the items or the versions of a tenant at a partition are used up
abbrev pub is_full_row : Row → Bool
is_full_row row = is_used_up row.items row.items_limit || is_used_up row.versions row.versions_limit

-- less than a quarter is left of one of them
abbrev pub is_scarce_row : Row → Bool
is_scarce_row row = is_scarce row.items row.items_limit || is_scarce row.versions row.versions_limit

-- one of all these limits is used up, or the sessions are
abbrev pub has_full : ServerReadings → Bool
has_full readings = is_used_up readings.open readings.most || list_any is_full_row readings.rows.items

-- less than a quarter is left of one
abbrev pub has_scarce : ServerReadings → Bool
has_scarce readings = is_scarce readings.open readings.most || list_any is_scarce_row readings.rows.items

-- 200 where a server is well and no limit is used up, 507 where one is, and 503 where it is not well
abbrev pub health_status : ServerReadings → Status
health_status readings = if not (is_well readings) then NotWell else (if has_full readings then Full else Well)

-- ---- the text

-- how much is left of a limit of which less than a quarter is
abbrev pub left_words : ℕ → ℕ → List ℕ
left_words used limit =
    if is_used_up used limit then codes "full: "
    else (if nat_lt (limit - used) (limit / 10) then codes "less than a tenth is left: " else codes "less than a quarter is left: ")

-- so, and how much of it is used
abbrev pub share_text : ℕ → ℕ → List ℕ → List ℕ
share_text used limit what = left_words used limit ++ (decimal used ++ (codes " of " ++ (decimal limit ++ what)))

-- at which partition it is, and the end of the line
abbrev pub partition_text : ℕ → List ℕ
partition_text partition = codes " at partition " ++ (decimal partition ++ codes "\n")

-- whose it is and where
abbrev pub place_text : List ℕ → ℕ → List ℕ
place_text tenant partition = codes " of tenant " ++ (tenant ++ partition_text partition)

-- the line for what a tenant uses of a limit at a partition, where less than a quarter is left of it
abbrev pub room_text : Row → ℕ → ℕ → List ℕ → List ℕ
room_text row used limit what =
    if is_scarce used limit then share_text used limit what ++ place_text row.tenant.now row.partition else []

-- the lines for the items of a row and for its versions
abbrev pub scarce_row_text : Row → List ℕ
scarce_row_text row =
    room_text row row.items row.items_limit (codes " items") ++ room_text row row.versions row.versions_limit (codes " versions")

abbrev pub scarce_rows_text : List Row → List ℕ
scarce_rows_text rows = flat_map scarce_row_text rows

-- the line for the sessions, where less than a quarter is left of them
abbrev pub sessions_text : ℕ → ℕ → List ℕ
sessions_text used limit = if is_scarce used limit then share_text used limit (codes " sessions\n") else []

-- the first line for a server that is well
abbrev pub health_head : ServerReadings → List ℕ
health_head readings =
    if has_full readings then words_of Full
    else (if has_scarce readings then codes "degraded: less than a quarter of a limit is left\n" else words_of Well)

-- the whole text: where the server is well, a line for each limit of which less than a quarter is left
abbrev pub health_text : ServerReadings → List ℕ
health_text readings =
    if not (is_well readings) then words_of NotWell
    else health_head readings ++ (scarce_rows_text readings.rows.items ++ sessions_text readings.open readings.most)
