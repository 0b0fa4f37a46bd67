mod Lending
mod OpenLemmas
mod PassLemmas
