-- The families of the metrics: their names, and what they count.
use Rattle.std.specs.Prelude.{ℕ, List, [], ◌∷◌, codes}
use Rattle.server_metrics.specs.declared.families.Family.{Family}
use Rattle.server_metrics.specs.declared.families.Family.TheVariants.{Items, ItemsLimit, Versions, VersionsLimit}
use Rattle.server_metrics.specs.declared.families.Family.TheVariants.{Marks, MarksLimit, Calls, Cut, Checked}
use Rattle.server_metrics.specs.declared.families.Family.TheVariants.{Waiting, Wrong, Clients, ClientsLimit, Sessions, Operations}
use Rattle.server_metrics.specs.declared.families.Family.TheVariants.{TenantRefusals, Refusals, HellosBusy, Restarts, Times, Collections, Connections}
use Rattle.server_metrics.specs.declared.families.Family.TheVariants.{ConnectionsLimit, ConnectionsBegun}
use Rattle.server_metrics.specs.declared.families.Family.TheVariants.{Started, Build}

-- the name of a family's numbers
abbrev pub name_text : Family → List ℕ
name_text Items = codes "ramp_items"
name_text ItemsLimit = codes "ramp_items_limit"
name_text Versions = codes "ramp_versions"
name_text VersionsLimit = codes "ramp_versions_limit"
name_text Marks = codes "ramp_marks"
name_text MarksLimit = codes "ramp_marks_limit"
name_text Calls = codes "ramp_calls_served_total"
name_text Cut = codes "ramp_epochs_cut_total"
name_text Checked = codes "ramp_epochs_checked_total"
name_text Waiting = codes "ramp_epochs_waiting"
name_text Wrong = codes "ramp_journal_wrong"
name_text Clients = codes "ramp_clients"
name_text ClientsLimit = codes "ramp_clients_limit"
name_text Sessions = codes "ramp_sessions"
name_text Operations = codes "ramp_operations_total"
name_text TenantRefusals = codes "ramp_tenant_refusals_total"
name_text Refusals = codes "ramp_refusals_total"
name_text HellosBusy = codes "ramp_hellos_busy_total"
name_text Restarts = codes "ramp_restarts_total"
name_text Times = codes "ramp_line_seconds"
name_text Collections = codes "ramp_collections_total"
name_text Connections = codes "ramp_connections"
name_text ConnectionsLimit = codes "ramp_connections_limit"
name_text ConnectionsBegun = codes "ramp_connections_total"
name_text Started = codes "process_start_time_seconds"
name_text Build = codes "ramp_build_info"

-- what they count
abbrev pub help_text : Family → List ℕ
help_text Items = codes "Items that a tenant has at a partition."
help_text ItemsLimit = codes "Items that a tenant may have at a partition."
help_text Versions = codes "Versions that are kept of a tenant's items at a partition."
help_text VersionsLimit = codes "Versions that may be kept of a tenant's items at a partition."
help_text Marks = codes "Clients of a tenant that have a discard watermark at a partition."
help_text MarksLimit = codes "Clients of a tenant that may have a discard watermark at a partition."
help_text Calls = codes "Calls of a tenant that a partition served, collections among them."
help_text Cut = codes "Epochs that were cut off a tenant's journal at a partition."
help_text Checked = codes "Epochs of a tenant's journal at a partition that were checked and right."
help_text Waiting = codes "Epochs of a tenant's journal at a partition that wait for their check."
help_text Wrong = codes "1 where an epoch of a tenant's journal at a partition was not right or not checked, else 0."
help_text Clients = codes "Client numbers of a tenant that were used."
help_text ClientsLimit = codes "Client numbers that a tenant may use."
help_text Sessions = codes "Sessions of a tenant that are open."
help_text Operations = codes "Lines put, get and find of a tenant that were answered done, read and list."
help_text TenantRefusals = codes "Lines of a tenant's clients that were answered by this refusal, but 12."
help_text Refusals = codes "Lines of sessions that were answered by this refusal, but 12."
help_text HellosBusy = codes "Lines hello that were refused 12, since the client number has a session: clients then draw another."
help_text Restarts = codes "Lines of sessions that were answered by a restart."
help_text Times = codes "How long lines took, from the read that brought them to the write of their answers."
help_text Collections = codes "Collections of a tenant at a partition."
help_text Connections = codes "Connections that are served now."
help_text ConnectionsLimit = codes "Connections that are served at a time."
help_text ConnectionsBegun = codes "Connections that were begun."
help_text Started = codes "When the server started, in seconds since 1970."
help_text Build = codes "1, with the version of the program."

-- whether they may fall, and the line's end
abbrev pub kind_text : Family → List ℕ
kind_text Items = codes " gauge\n"
kind_text ItemsLimit = codes " gauge\n"
kind_text Versions = codes " gauge\n"
kind_text VersionsLimit = codes " gauge\n"
kind_text Marks = codes " gauge\n"
kind_text MarksLimit = codes " gauge\n"
kind_text Calls = codes " counter\n"
kind_text Cut = codes " counter\n"
kind_text Checked = codes " counter\n"
kind_text Waiting = codes " gauge\n"
kind_text Wrong = codes " gauge\n"
kind_text Clients = codes " gauge\n"
kind_text ClientsLimit = codes " gauge\n"
kind_text Sessions = codes " gauge\n"
kind_text Operations = codes " counter\n"
kind_text TenantRefusals = codes " counter\n"
kind_text Refusals = codes " counter\n"
kind_text HellosBusy = codes " counter\n"
kind_text Restarts = codes " counter\n"
kind_text Times = codes " histogram\n"
kind_text Collections = codes " counter\n"
kind_text Connections = codes " gauge\n"
kind_text ConnectionsLimit = codes " gauge\n"
kind_text ConnectionsBegun = codes " counter\n"
kind_text Started = codes " gauge\n"
kind_text Build = codes " gauge\n"

-- those that have a number for each tenant at each partition
abbrev pub row_families : List Family
row_families =
    Items ∷ ItemsLimit ∷ Versions ∷ VersionsLimit ∷ Marks ∷ MarksLimit ∷ Calls ∷ Collections ∷ Cut ∷ Checked ∷ Waiting ∷ Wrong ∷ []
