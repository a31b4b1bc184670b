-- Where a server listens.
use Rattle.std.specs.Prelude.{◌≡◌, ℕ, List, [], ◌∷◌}
use Rattle.std.specs.Net.Addr.{ipv4_octets}
use Rattle.std.specs.Net.Socket.{socket_ip}
use Rattle.std.specs.declared.net.ip_addr.IpAddr.{IpAddr}
use Rattle.std.specs.declared.net.ip_addr.IpAddr.TheVariants.{V4, V6}
use Rattle.std.specs.declared.net.socket_addr.SocketAddr.{SocketAddr}

-- the octets of an IPv4 address, and none of another one
abbrev pub octets_of : IpAddr → List ℕ
octets_of (V4 ip) = ipv4_octets ip
octets_of (V6 ip) = []

-- the address is 127.0.0.1, at any port
abbrev pub IsHome : SocketAddr → Type 0
IsHome address = octets_of (socket_ip address) ≡ 127 ∷ 0 ∷ 0 ∷ 1 ∷ []
