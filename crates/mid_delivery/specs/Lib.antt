-- What is claimed of every sound network, arisen or not, and of deliveries that any caller does.
pub mod SoundClaims
