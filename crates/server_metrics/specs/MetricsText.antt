-- What was read of a server, as text.
use Rattle.std.specs.Prelude.{ℕ, ◌-◌, ◌++◌, ◌&&◌, Bool, not, if◌then◌else◌, List, [], ◌∷◌, Option, Some, None, codes, decimal}
use Rattle.std.specs.List.{flat_map, list_all}
use Rattle.std.specs.Option.{option_map}
use Rattle.server_metrics.specs.Families.{row_families}
use Rattle.server_metrics.specs.Figures.{family_text, figure_text}
use Rattle.server_metrics.specs.TimesText.{times_text}
use Rattle.server_metrics.specs.declared.families.Family.{Family}
use Rattle.server_metrics.specs.declared.families.Family.TheVariants.{Items, ItemsLimit, Versions, VersionsLimit}
use Rattle.server_metrics.specs.declared.families.Family.TheVariants.{Marks, MarksLimit, Calls, Cut, Checked}
use Rattle.server_metrics.specs.declared.families.Family.TheVariants.{Waiting, Wrong, Clients, ClientsLimit, Sessions, Operations}
use Rattle.server_metrics.specs.declared.families.Family.TheVariants.{TenantRefusals, Refusals, HellosBusy, Restarts, Times, Collections, Connections}
use Rattle.server_metrics.specs.declared.families.Family.TheVariants.{ConnectionsLimit, ConnectionsBegun}
use Rattle.server_metrics.specs.declared.families.Family.TheVariants.{Started, Build}
use Rattle.server_metrics.specs.declared.metrics.ClientRow.{ClientRow}
use Rattle.server_metrics.specs.declared.metrics.ServerReadings.{ServerReadings}
use Rattle.server_metrics.specs.declared.metrics.RefusalRow.{RefusalRow}
use Rattle.server_metrics.specs.declared.metrics.Row.{Row}

-- a family's number of a row, if the row has it: those of checks are there where epochs are checked
abbrev pub number_of : Family → Row → Option ℕ
number_of Items row = Some row.items
number_of ItemsLimit row = Some row.items_limit
number_of Versions row = Some row.versions
number_of VersionsLimit row = Some row.versions_limit
number_of Marks row = Some row.marks
number_of MarksLimit row = Some row.marks_limit
number_of Calls row = Some row.calls
number_of Cut row = Some row.cut
number_of Checked row = row.checked
number_of Waiting row = option_map (λ checked. row.cut - checked) row.checked
number_of Wrong row = option_map (λ checked. if row.is_wrong then 1 else 0) row.checked
number_of Clients row = None
number_of ClientsLimit row = None
number_of Sessions row = None
number_of Operations row = None
number_of TenantRefusals row = None
number_of Refusals row = None
number_of HellosBusy row = None
number_of Restarts row = None
number_of Times row = None
number_of Collections row = Some row.collections
number_of Connections row = None
number_of ConnectionsLimit row = None
number_of ConnectionsBegun row = None
number_of Started row = None
number_of Build row = None

-- the labels of a tenant at a partition
abbrev pub place_of : List ℕ → List ℕ → List (List ℕ × List ℕ)
place_of tenant partition = (codes "tenant", tenant) ∷ (codes "partition", partition) ∷ []

-- the line of a number of a row, or nothing where there is none
abbrev pub line_of : Family → Row → Option ℕ → List ℕ
line_of family row None = []
line_of family row (Some number) = figure_text family (place_of row.tenant.now (decimal row.partition)) number

abbrev pub row_text : Family → Row → List ℕ
row_text family row = line_of family row (number_of family row)

abbrev pub rows_text : Family → List Row → List ℕ
rows_text family rows = flat_map (row_text family) rows

-- families of rows, one after another
abbrev pub families_text : List Row → List Family → List ℕ
families_text rows families = flat_map (λ family. family_text family ++ rows_text family rows) families

-- all families of rows
unfoldable pub table_text : List Row → List ℕ
table_text rows = families_text rows row_families

-- how many client numbers of a tenant were used, or may be, or how many of its sessions are open
abbrev pub clients_number : Family → ClientRow → ℕ
clients_number ClientsLimit row = row.limit
clients_number Sessions row = row.sessions
clients_number _ row = row.clients

-- the line of a tenant's clients
abbrev pub client_text : Family → ClientRow → List ℕ
client_text family row = figure_text family ((codes "tenant", row.tenant.now) ∷ []) (clients_number family row)

abbrev pub clients_text : Family → List ClientRow → List ℕ
clients_text family rows = flat_map (client_text family) rows

-- a family of the tenants' clients
abbrev pub tenants_text : Family → List ClientRow → List ℕ
tenants_text family rows = family_text family ++ clients_text family rows

-- the line of a tenant's operations of a kind
abbrev pub operation_text : List ℕ → List ℕ → ℕ → List ℕ
operation_text tenant kind number = figure_text Operations ((codes "tenant", tenant) ∷ (codes "kind", kind) ∷ []) number

-- the lines of its operations
unfoldable pub operations_of : ClientRow → List ℕ
operations_of row =
    operation_text row.tenant.now (codes "put") row.puts ++ (operation_text row.tenant.now (codes "get") row.gets
    ++ operation_text row.tenant.now (codes "find") row.finds)

abbrev pub operation_rows_text : List ClientRow → List ℕ
operation_rows_text rows = flat_map operations_of rows

-- the family of the operations
abbrev pub operations_text : List ClientRow → List ℕ
operations_text rows = family_text Operations ++ operation_rows_text rows

-- the line of a tenant's refusal
abbrev pub refused_text : List ℕ → List ℕ → ℕ → List ℕ
refused_text tenant number lines =
    figure_text TenantRefusals ((codes "tenant", tenant) ∷ (codes "number", number) ∷ []) lines

unfoldable pub tenant_refusal_text : List ℕ → RefusalRow → List ℕ
tenant_refusal_text tenant row = refused_text tenant (decimal row.number) row.lines

-- the lines of its refusals
abbrev pub refusals_of : List ℕ → List RefusalRow → List ℕ
refusals_of tenant refusals = flat_map (tenant_refusal_text tenant) refusals

abbrev pub tenant_refusal_rows_text : List ClientRow → List ℕ
tenant_refusal_rows_text rows = flat_map (λ row. refusals_of row.tenant.now row.refusals.items) rows

-- the family of the tenants' refusals
unfoldable pub tenant_refusals_text : List ClientRow → List ℕ
tenant_refusals_text rows = family_text TenantRefusals ++ tenant_refusal_rows_text rows

-- what the tenants' lines were answered: their operations and refusals
unfoldable pub tenant_answers_text : List ClientRow → List ℕ
tenant_answers_text rows = operations_text rows ++ tenant_refusals_text rows

-- how many client numbers were used of each tenant and may be, its open sessions, its operations and its refusals
unfoldable pub all_tenants_text : List ClientRow → List ℕ
all_tenants_text rows =
    tenants_text Clients rows ++ (tenants_text ClientsLimit rows ++ (tenants_text Sessions rows ++ tenant_answers_text rows))

-- the line of a refusal
abbrev pub refusal_text : Family → RefusalRow → List ℕ
refusal_text family row = figure_text family ((codes "number", decimal row.number) ∷ []) row.lines

abbrev pub refusal_rows_text : Family → List RefusalRow → List ℕ
refusal_rows_text family rows = flat_map (refusal_text family) rows

-- the family of the refusals
unfoldable pub refusals_text : List RefusalRow → List ℕ
refusals_text rows = family_text Refusals ++ refusal_rows_text Refusals rows

-- a family of one number
abbrev pub plain_text : Family → ℕ → List ℕ
plain_text family number = family_text family ++ figure_text family [] number

-- how many connections there are, may be and were begun
abbrev pub connections_text : ServerReadings → List ℕ
connections_text readings =
    plain_text Connections readings.open ++ (plain_text ConnectionsLimit readings.most
    ++ plain_text ConnectionsBegun readings.begun)

-- when the server started, and which program it is
abbrev pub process_text : ServerReadings → List ℕ
process_text readings =
    plain_text Started readings.started ++ (family_text Build
    ++ figure_text Build ((codes "version", readings.version.now) ∷ []) 1)

-- the sessions and the process
unfoldable pub server_text : ServerReadings → List ℕ
server_text readings =
    plain_text HellosBusy readings.busy ++ (plain_text Restarts readings.restarts
    ++ (connections_text readings ++ process_text readings))

-- the whole page
abbrev pub metrics_text : ServerReadings → List ℕ
metrics_text readings =
    table_text readings.rows.items ++ (all_tenants_text readings.clients.items
    ++ (refusals_text readings.refusals.items ++ (times_text Times readings.times ++ server_text readings)))

-- each partition is there, and no row is wrong
abbrev pub is_well : ServerReadings → Bool
is_well readings = readings.is_whole && list_all (λ (row : Row). not row.is_wrong) readings.rows.items
