-- Where the program listens (this project's own).
use Rattle.std.specs.Prelude.{ℕ, ◌≡◌, [], ◌∷◌}
use Rattle.std.specs.Net.Addr.{MatchIp, ipv4_octets}
use Rattle.std.specs.Net.Socket.{socket_ip, socket_port}
use Rattle.std.specs.declared.net.socket_addr.SocketAddr.{SocketAddr}

-- 127.0.0.1, and the port
abbrev pub IsLocal : ℕ → SocketAddr → Type 0
IsLocal port address =
    MatchIp (socket_ip address) (λ ip. ipv4_octets ip ≡ 127 ∷ 0 ∷ 0 ∷ 1 ∷ []) (λ ip. ⊥)
    × (socket_port address ≡ port)
